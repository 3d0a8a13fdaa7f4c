-- Frames are claimed, or their claims are dropped: the zone stays valid.
use Rattle.std.proofs.Common.{◌≡◌, ◌≢◌, ℕ, zero, suc, ◌+◌, ◌<◌, ◌≤◌, Bool, true, false, not, refl, sym, ap, ◌∙◌, arith, Option, Some, None, ◌&&◌, ◌||◌, inl, inr, nat_le, nat_lt, subst, ◌^◌, if◌then◌else◌}
use Rattle.std.specs.FinMap as map
use Rattle.std.specs.FinSet as set
use Rattle.std.specs.Ordering.{nat_cmp}
use Rattle.std.proofs.lemmas.Bool.{and_parts, and_from, and_left, and_right, both_ways, eq-eqb, false_from_ne_true, le-leb, lt-ltb, ltb-true, not-true, or_cases, or_from, or_parts, or_right}
use Rattle.std.proofs.Math.Bool.{or-false, and-true}
use Rattle.std.proofs.lemmas.Bool.Decides.{eqb_tells, nat_tests}
use Rattle.std.proofs.lemmas.Nat.{pow_pos}
use Rattle.frame_core.proofs.Searches.{count_from_all, some_at, some_one}
use Rattle.frame_core.specs.Below.{one_if}
use Rattle.state_core.specs.declared.placement.Placement.{Placement}
use Rattle.state_core.specs.Claiming.{is_claimed, claimed_at, dropped_at, run_claimed, run_dropped, with_apart, with_run, without_run}
use Rattle.state_core.specs.Valid.{IsValidZone}
use Rattle.state_core.specs.ZoneState.{ZoneState, frame_count, takes_up, covers, is_used, is_held, is_handed_out, is_free}
use Rattle.state_core.specs.HandingOut.{has_block, is_run}
use Rattle.state_core.proofs.Entries.{contains_insert_same, contains_insert_other, contains_remove_same, contains_remove_other}
use Rattle.state_core.proofs.Facts.{not_none}
use Rattle.state_core.proofs.Places.{counts_add_up}

-- a frame that a page takes up is used
used_by : (v : ZoneState) → IsValidZone v → (page frame : ℕ) → takes_up (map.get v.placement page) frame ≡ true → is_used v frame ≡ true
used_by v law page frame e = by_place (map.get v.placement page) refl where
  by_place : (o : Option Placement) → map.get v.placement page ≡ o → is_used v frame ≡ true
  by_place None at = absurd (both_ways _ (ap (λ (o : Option Placement). takes_up o frame) at) e)
  by_place (Some place) at = some_at (λ p. takes_up (map.get v.placement p) frame) (frame_count v) page (law.pages.numbered page (not_none _ place at)) e

-- a frame of a block that is handed out is handed out
pub handed_by : (v : ZoneState) → IsValidZone v → (first frame : ℕ) → covers (map.get v.handed_out first) first frame ≡ true → is_handed_out v frame ≡ true
handed_by v law first frame e = by_order (map.get v.handed_out first) refl where
  by_order : (o : Option ℕ) → map.get v.handed_out first ≡ o → is_handed_out v frame ≡ true
  by_order None at = absurd (both_ways _ (ap (λ (o : Option ℕ). covers o first frame) at) e)
  by_order (Some order) at =
      let within = (law.blocks.each first order at).within in
      some_at (λ q. covers (map.get v.handed_out q) q frame) (frame_count v) first (omega (arith, within, pow_pos order)) e

-- a frame that a page takes up isn't held
used_unheld : (v : ZoneState) → IsValidZone v → (frame : ℕ) → is_used v frame ≡ true → is_held v frame ≡ false
used_unheld v law frame used =
    let one = some_one (λ page. takes_up (map.get v.placement page) frame) (frame_count v) used in
    law.pages.clear one.0 frame one.2

-- a frame may be claimed: it is in the zone, and neither used nor handed out
pub record MayBeClaimed (v : ZoneState) (frame : ℕ) : Type 0 where
  pub within : frame < frame_count v
  pub unused : is_used v frame ≡ false
  pub kept : is_handed_out v frame ≡ false

-- a frame that is used isn't held before and after, and another one is free or held
balance : (used handed before after : Bool) → (used ≡ true → (handed || before) ≡ false) → (used ≡ true → (handed || after) ≡ false) → one_if (not used && not (handed || after)) + one_if (handed || after) ≡ one_if (not used && not (handed || before)) + one_if (handed || before)
balance used handed before after h k = grind (arith, h, k)

-- the claims may be any frames that may be claimed
module _ (v : ZoneState) (law : IsValidZone v) (claimed : set.FinSet nat_cmp) (may : (frame : ℕ) → set.contains claimed frame ≡ true → MayBeClaimed v frame) where
  abbrev next : ZoneState
  next = record v { claimed = claimed; round = None }

  clear : (frame : ℕ) → is_used v frame ≡ true → is_held next frame ≡ false
  clear frame used = or_from (is_handed_out v frame) _ (or_parts (is_handed_out v frame) _ (used_unheld v law frame used)).0 (false_from_ne_true _ (λ c. both_ways _ (may frame c).unused used))

  pub valid_claims : IsValidZone next
  valid_claims = record {
    size = law.size;
    addresses = law.addresses;
    journal = law.journal;
    agrees = law.agrees;
    pages = record { numbered = law.pages.numbered; elsewhere = law.pages.elsewhere; apart = law.pages.apart; within = law.pages.within; clear = λ page frame e. clear frame (used_by v law page frame e); unmovable = law.pages.unmovable };
    blocks = record {
      each = law.blocks.each;
      disjoint = law.blocks.disjoint;
      contents = law.blocks.contents;
      lent = law.blocks.lent;
      lendable = law.blocks.lendable;
      claims = λ frame c. (may frame c).within;
      unclaimed = λ first frame e. false_from_ne_true _ (λ c. both_ways _ (may frame c).kept (handed_by v law first frame e));
    };
    loans = law.loans;
    fingers = record { ordered = law.fingers.ordered; begun = λ start e. cc; swept = λ quiet. cc };
    sum = omega (arith, law.sum, counts_add_up (is_free next) (is_held next) (is_free v) (is_held v) (frame_count v) (λ frame h. balance (is_used v frame) (is_handed_out v frame) (set.contains v.claimed frame) (set.contains claimed frame) (used_unheld v law frame) (clear frame)));
  }

-- a frame that is claimed may be claimed, and so may a free frame
pub claimed_may : (v : ZoneState) → IsValidZone v → (frame : ℕ) → is_claimed v frame ≡ true → MayBeClaimed v frame
claimed_may v law frame c = record {
  within = law.blocks.claims frame c;
  unused = false_from_ne_true _ (λ used. both_ways _ (or_parts (is_handed_out v frame) _ (used_unheld v law frame used)).1 c);
  kept = false_from_ne_true _ (λ handed.
      (let one = some_one (λ first. covers (map.get v.handed_out first) first frame) (frame_count v) handed in
      both_ways _ (law.blocks.unclaimed one.0 frame one.2) c));
}

pub free_may : (v : ZoneState) (frame : ℕ) → is_free v frame ≡ true → frame < frame_count v → MayBeClaimed v frame
free_may v frame free within =
    let parts = and_parts (not (is_used v frame)) (not (is_held v frame)) free in
    record { within = within; unused = not-true _ parts.0; kept = (or_parts (is_handed_out v frame) _ (not-true _ parts.1)).0 }

pub valid_claimed_at : (v : ZoneState) → IsValidZone v → (frame : ℕ) → is_free v frame ≡ true → frame < frame_count v → IsValidZone (claimed_at v frame)
valid_claimed_at v law frame free within = valid_claims v law (set.insert v.claimed frame) (λ other c. elim (eqb_tells other frame) [
  | inl same ↦ subst (MayBeClaimed v) (sym same.1) (free_may v frame free within)
  | inr ne ↦ claimed_may v law other (sym (contains_insert_other v.claimed frame other ne.1) ∙ c)
])

pub valid_dropped_at : (v : ZoneState) → IsValidZone v → (frame : ℕ) → IsValidZone (dropped_at v frame)
valid_dropped_at v law frame = valid_claims v law (set.remove v.claimed frame) (λ other c. elim (eqb_tells other frame) [
  | inl same ↦ absurd (both_ways _ (contains_remove_same v.claimed frame other same.1) c)
  | inr ne ↦ claimed_may v law other (sym (contains_remove_other v.claimed frame other ne.1) ∙ c)
])

-- no number is in an empty run
outside : (first frame : ℕ) → (nat_le first frame && nat_lt frame (first + 0)) ≡ false
outside first frame = grind (arith, nat_tests)

-- the last number of a run is in it, and another one is in it where it is in the run without the last
at_last : (first n frame : ℕ) → frame ≡ first + n → (nat_le first frame && nat_lt frame (first + suc n)) ≡ true
at_last first n frame same = and_from _ _ (le-leb first frame (omega (arith, same))) (lt-ltb frame (first + suc n) (omega (arith, same)))

one_more : (first n frame : ℕ) → frame ≢ first + n → (nat_le first frame && nat_lt frame (first + n)) ≡ (nat_le first frame && nat_lt frame (first + suc n))
one_more first n frame other = grind (arith, nat_tests, other)

after_one : (p : ℕ → Bool) (numbers : set.FinSet nat_cmp) (first n frame : ℕ) → set.contains (with_run p numbers first n) frame ≡ (set.contains numbers frame || ((nat_le first frame && nat_lt frame (first + n)) && p frame))
    → (b : Bool) → p (first + n) ≡ b → set.contains (if b then set.insert (with_run p numbers first n) (first + n) else with_run p numbers first n) frame ≡ (set.contains numbers frame || ((nat_le first frame && nat_lt frame (first + suc n)) && p frame))
after_one p numbers first n frame before true e = elim (eqb_tells frame (first + n)) [
  | inl same ↦ contains_insert_same _ (first + n) frame same.1 ∙ sym (or_right (set.contains numbers frame) _ (and_from _ _ (at_last first n frame same.1) (ap p same.1 ∙ e)))
  | inr other ↦ contains_insert_other _ (first + n) frame other.1 ∙ before ∙ ap (λ b. set.contains numbers frame || (b && p frame)) (one_more first n frame other.1)
]
after_one p numbers first n frame before false e = before ∙ elim (eqb_tells frame (first + n)) [
  | inl same ↦ ap (λ b. set.contains numbers frame || b) (and_right _ _ (ap p same.1 ∙ e) ∙ sym (and_right _ _ (ap p same.1 ∙ e)))
  | inr other ↦ ap (λ b. set.contains numbers frame || (b && p frame)) (one_more first n frame other.1)
]

-- what a set has after those of a run that pass were put in
pub with_run_has : (p : ℕ → Bool) (numbers : set.FinSet nat_cmp) (first n frame : ℕ) → set.contains (with_run p numbers first n) frame ≡ (set.contains numbers frame || ((nat_le first frame && nat_lt frame (first + n)) && p frame))
with_run_has p numbers first zero frame = sym (ap (λ b. set.contains numbers frame || b) (and_left _ _ (outside first frame)) ∙ or-false _)
with_run_has p numbers first (suc n) frame = after_one p numbers first n frame (with_run_has p numbers first n frame) (p (first + n)) refl

-- what it has after a run was taken out
pub without_run_has : (numbers : set.FinSet nat_cmp) (first n frame : ℕ) → set.contains (without_run numbers first n) frame ≡ (set.contains numbers frame && not (nat_le first frame && nat_lt frame (first + n)))
without_run_has numbers first zero frame = sym (ap (λ b. set.contains numbers frame && not b) (outside first frame) ∙ and-true _)
without_run_has numbers first (suc n) frame = elim (eqb_tells frame (first + n)) [
  | inl same ↦ contains_remove_same _ (first + n) frame same.1 ∙ sym (and_right (set.contains numbers frame) _ (ap not (at_last first n frame same.1)))
  | inr other ↦ contains_remove_other _ (first + n) frame other.1 ∙ without_run_has numbers first n frame ∙ ap (λ b. set.contains numbers frame && not b) (one_more first n frame other.1)
]

-- a run of free frames of the zone may be claimed, and claims may be dropped
pub valid_run_claimed : (v : ZoneState) → IsValidZone v → (first size : ℕ) → first + size ≤ frame_count v → IsValidZone (run_claimed first size v)
valid_run_claimed v law first size within = valid_claims v law (with_run (is_free v) v.claimed first size) (λ frame c. elim (or_cases _ _ (sym (with_run_has (is_free v) v.claimed first size frame) ∙ c)) [
  | inl before ↦ claimed_may v law frame before
  | inr more ↦
      (let parts = and_parts (nat_le first frame && nat_lt frame (first + size)) (is_free v frame) more in
      let high = ltb-true _ _ (and_parts (nat_le first frame) _ parts.0).1 in
      free_may v frame parts.1 (omega (arith, high, within)))
])

pub valid_run_dropped : (v : ZoneState) → IsValidZone v → (first size : ℕ) → IsValidZone (run_dropped first size v)
valid_run_dropped v law first size = valid_claims v law (without_run v.claimed first size) (λ frame c. claimed_may v law frame (and_parts _ _ (sym (without_run_has v.claimed first size frame) ∙ c)).0)

-- after the claims of a block's frames are dropped, all of which were claimed, the block is free
pub dropped_run : (v : ZoneState) → IsValidZone v → (first order : ℕ) → has_block v order first ≡ true → ((frame : ℕ) → first ≤ frame → frame < first + 2 ^ order → is_claimed v frame ≡ true) → is_run (run_dropped first (2 ^ order) v) order first ≡ true
dropped_run v law first order block all = and_from _ _ block (eq-eqb _ _ (count_from_all (is_free (run_dropped first (2 ^ order) v)) first (2 ^ order) (λ frame low high.
    (let may = claimed_may v law frame (all frame low high) in
    and_from _ _ (ap not may.unused) (ap not (or_from (is_handed_out v frame) _ may.kept
    (without_run_has v.claimed first (2 ^ order) frame ∙ and_right (is_claimed v frame) _ (ap not (and_from _ _ (le-leb _ _ low) (lt-ltb _ _ high))))))))))

-- a round may be forgotten
pub valid_forgotten : (v : ZoneState) → IsValidZone v → IsValidZone (record v { round = None })
valid_forgotten v law = valid_claims v law v.claimed (claimed_may v law)

-- where unmovable pages are mapped is no part of what is valid
pub valid_apart : (v : ZoneState) → IsValidZone v → (apart : Bool) → IsValidZone (with_apart v apart)
valid_apart v law apart = record {
  size = law.size;
  addresses = law.addresses;
  journal = law.journal;
  agrees = law.agrees;
  pages = law.pages;
  blocks = law.blocks;
  loans = law.loans;
  fingers = record { ordered = law.fingers.ordered; begun = law.fingers.begun; swept = λ quiet. (let s = law.fingers.swept quiet in record { below = s.below; above = s.above; unheld = s.unheld; movable = s.movable; ways = λ page serial source target e. (let w = s.ways page serial source target e in record { low = w.low; high = w.high; movable = w.movable }) }) };
  sum = law.sum;
}
