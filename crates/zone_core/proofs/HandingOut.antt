-- Blocks that are free and share no frame are handed out one after the other.
use Rattle.std.proofs.Common.{◌≡◌, ◌≢◌, ℕ, zero, suc, ◌+◌, ◌-◌, ◌^◌, ◌<◌, ◌≤◌, Bool, true, false, List, length, inl, inr, refl, sym, ap, subst, ◌∙◌, arith}
use Rattle.std.specs.Prelude.{Some, nat_eq, slice_index}
use Rattle.std.specs.FinMap as map
use Rattle.std.proofs.lemmas.Bool.{and_from, and_parts, both_ways, false_from_ne_true, lt-ltb}
use Rattle.std.proofs.lemmas.Bool.Decides.{eqb_tells}
use Rattle.frame_core.proofs.Searches.{count_from_same}
use Rattle.frame_core.specs.Moves.{moved, out}
use Rattle.state_core.proofs.Entries.{get_insert_other, get_insert_same}
use Rattle.state_core.proofs.HandingOut.{free_taken_out}
use Rattle.state_core.specs.HandingOut.{block_taken, has_block, is_run}
use Rattle.state_core.specs.ZoneState.{ZoneState, has_room, is_free}
use Rattle.state_core.specs.Valid.{IsValidZone}
use Rattle.fewest_core.specs.Evacuation.{is_in_run, IsCarriedFrom}
use Rattle.fewest_core.specs.Reservation.{blocks_taken}
use Rattle.zone_core.proofs.Emptying.{in_run}

-- no two of these blocks share a frame
abbrev pub AreApart : ℕ → List ℕ → Type 0
AreApart order firsts = (a b frame : ℕ) → a < b → b < length firsts → is_in_run (slice_index firsts a) (2 ^ order) frame ≡ true → is_in_run (slice_index firsts b) (2 ^ order) frame ≡ false

-- the first n blocks are handed out, and the others are free
pub record IsHandingOut (z : ZoneState) (order : ℕ) (firsts : List ℕ) (v : ZoneState) (n : ℕ) : Type 0 where
  pub same : v ≡ blocks_taken z order firsts n
  pub free : (place : ℕ) → n ≤ place → place < length firsts → is_run v order (slice_index firsts place) ≡ true
  pub room : length (out v.records) + (length firsts - n) ≤ v.room
  pub valid : IsValidZone v

module _ (z : ZoneState) (order : ℕ) (firsts : List ℕ) where
  pub handing_begins : length (out z.records) + length firsts ≤ z.room → ((place : ℕ) → place < length firsts → is_run z order (slice_index firsts place) ≡ true) → IsValidZone z → IsHandingOut z order firsts z 0
  handing_begins room free law = record { same = refl; free = λ place low h. free place h; room = omega (arith, room); valid = law }

  module _ (v : ZoneState) (n : ℕ) (is : IsHandingOut z order firsts v n) (within : n < length firsts) where
    pub room_here : has_room v ≡ true
    room_here = lt-ltb _ _ (omega (arith, is.room, within))

    pub run_here : is_run v order (slice_index firsts n) ≡ true
    run_here = is.free n (omega arith) within

    abbrev next : ZoneState
    next = block_taken v (slice_index firsts n) order

    still_free : AreApart order firsts → (place : ℕ) → n + 1 ≤ place → place < length firsts → is_run next order (slice_index firsts place) ≡ true
    still_free apart place low h =
        let parts = and_parts (has_block v order (slice_index firsts place)) _ (is.free place (omega (arith, low)) h) in
        let same = count_from_same (is_free next) (is_free v) (slice_index firsts place) (2 ^ order) (λ frame from below. free_taken_out v (slice_index firsts n) order run_here frame (before frame (in_run (slice_index firsts place) (2 ^ order) frame from below))) in
        and_from (has_block v order (slice_index firsts place)) _ parts.0 (ap (λ (k : ℕ). nat_eq k (2 ^ order)) same ∙ parts.1) where
          before : (frame : ℕ) → is_in_run (slice_index firsts place) (2 ^ order) frame ≡ true → is_in_run (slice_index firsts n) (2 ^ order) frame ≡ false
          before frame there = false_from_ne_true _ (λ here. both_ways _ (apart n place frame (omega (arith, low)) h here) there)

    pub handing_on : AreApart order firsts → (new : ZoneState) → new ≡ block_taken v (slice_index firsts n) order → IsValidZone new → IsHandingOut z order firsts new (n + 1)
    handing_on apart new step law = subst (λ (u : ZoneState). IsHandingOut z order firsts u (n + 1)) (sym step) (record {
      same = ap (λ (u : ZoneState). block_taken u (slice_index firsts n) order) is.same ∙ ap (blocks_taken z order firsts) one_more;
      free = still_free apart;
      room = omega (arith, is.room, within);
      valid = subst IsValidZone step law;
    }) where
      one_more : suc n ≡ n + 1
      one_more = omega arith

-- what handing out doesn't change, and what it does
module _ (order : ℕ) (firsts : List ℕ) (z : ZoneState) where
  pub kept_blocks : (n : ℕ) → ((blocks_taken z order firsts n).blocks ≡ z.blocks) × ((blocks_taken z order firsts n).number ≡ z.number) × (moved (blocks_taken z order firsts n).records ≡ moved z.records)
  kept_blocks zero = (refl, refl, refl)
  kept_blocks (suc n) = let before = kept_blocks n in (before.0, before.1, before.2)

  pub carried_on : (is_in : ℕ → Bool) (old : ZoneState) → IsCarriedFrom is_in old z → (n : ℕ) → IsCarriedFrom is_in old (blocks_taken z order firsts n)
  carried_on is_in old is zero = is
  carried_on is_in old is (suc n) =
      let before = carried_on is_in old is n in
      record { flags = before.flags; words = before.words; names = before.names; others = before.others }

  pub handed_all : (n place : ℕ) → place < n → map.get (blocks_taken z order firsts n).handed_out (slice_index firsts place) ≡ Some order
  handed_all zero place h = absurd (omega (arith, h))
  handed_all (suc n) place h = elim (eqb_tells (slice_index firsts place) (slice_index firsts n)) [
    | inl at ↦ get_insert_same (blocks_taken z order firsts n).handed_out (slice_index firsts n) (slice_index firsts place) order at.1
    | inr other ↦ get_insert_other (blocks_taken z order firsts n).handed_out (slice_index firsts n) (slice_index firsts place) order other.1 ∙ handed_all n place (earlier place h other.1)
  ] where
    earlier : (place : ℕ) → place < suc n → slice_index firsts place ≢ slice_index firsts n → place < n
    earlier place h apart = elim (eqb_tells place n) [
      | inl at ↦ absurd (apart (ap (slice_index firsts) at.1))
      | inr other ↦ omega (arith, h, other.1)
    ]
