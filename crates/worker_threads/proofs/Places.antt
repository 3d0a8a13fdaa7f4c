-- Places for the pages that workers have, of which one gets a half or gives it back.
use Rattle.std.proofs.Common.{◌≡◌, ◌≢◌, ℕ, zero, suc, ◌+◌, true, ◌&&◌, nat_eq, List, [], ◌∷◌, ◌⊎◌, inl, inr, refl, sym, ap, ◌∙◌}
use Rattle.std.specs.Prelude.{Option, Some, None, slice_get, slice_set}
use Rattle.std.proofs.lemmas.Bool.{and_parts, eqb-true}
use Rattle.std.proofs.lemmas.Bool.Decides.{eqb_tells}
use Rattle.std.proofs.lemmas.Option.{slice_get_within}
use Rattle.frame_core.proofs.Lists.{slice_get_set_same, slice_get_set_other}
use Rattle.worker_threads.specs.Rooms.{in_hand}
use Rattle.worker_threads.specs.declared.room.KeptHalf.{KeptHalf}
use Rattle.zone_tables.specs.declared.ending.Move.{Move}

-- after a place got something, each place has that or what it had
pub place_after : (kept : List (Option KeptHalf)) (place : ℕ) (x y : Option KeptHalf) → slice_get kept place ≡ Some x → (i : ℕ) (z : Option KeptHalf) → slice_get (slice_set kept place y) i ≡ Some z
    → ((i ≡ place) × (y ≡ z)) ⊎ ((i ≢ place) × (slice_get kept i ≡ Some z))
place_after kept place x y had i z has = elim (eqb_tells i place) [
  | inl same ↦ (let both : Some y ≡ Some z = sym (slice_get_set_same kept place i y same.1 (slice_get_within kept place x had)) ∙ has in inl (same.1, cc))
  | inr other ↦ inr (other.1, sym (slice_get_set_other kept place i y other.1) ∙ has)
]

-- a worker has a page more, or one less
pub one_more : (kept : List (Option KeptHalf)) (place : ℕ) (k : KeptHalf) → slice_get kept place ≡ Some None → in_hand (slice_set kept place (Some k)) ≡ in_hand kept + 1
one_more [] place k had = cc
one_more (None ∷ kept) zero k had = refl
one_more (Some other ∷ kept) zero k had = cc
one_more (None ∷ kept) (suc place) k had = one_more kept place k had
one_more (Some other ∷ kept) (suc place) k had = ap (λ n. n + 1) (one_more kept place k had)

pub one_less : (kept : List (Option KeptHalf)) (place : ℕ) (k : KeptHalf) → slice_get kept place ≡ Some (Some k) → in_hand (slice_set kept place None) + 1 ≡ in_hand kept
one_less [] place k had = cc
one_less (None ∷ kept) zero k had = cc
one_less (Some other ∷ kept) zero k had = refl
one_less (None ∷ kept) (suc place) k had = one_less kept place k had
one_less (Some other ∷ kept) (suc place) k had = ap (λ n. n + 1) (one_less kept place k had)

-- none has a page where no place has a half
pub none_in_hand : (kept : List (Option KeptHalf)) → ((i : ℕ) (k : KeptHalf) → slice_get kept i ≡ Some (Some k) → ⊥) → in_hand kept ≡ 0
none_in_hand [] none = refl
none_in_hand (None ∷ kept) none = none_in_hand kept (λ i. none (suc i))
none_in_hand (Some k ∷ kept) none = absurd (none 0 k refl)

-- moves that are found equal are the same
pub same_move : (a b : Move) → (nat_eq a.page b.page && (nat_eq a.serial b.serial && (nat_eq a.source b.source && nat_eq a.target b.target))) ≡ true → a ≡ b
same_move a b e =
    let page = and_parts (nat_eq a.page b.page) _ e in
    let serial = and_parts (nat_eq a.serial b.serial) _ page.1 in
    let frames = and_parts (nat_eq a.source b.source) _ serial.1 in
    λ i. record { page = eqb-true _ _ page.0 i; serial = eqb-true _ _ serial.0 i; source = eqb-true _ _ frames.0 i; target = eqb-true _ _ frames.1 i }
