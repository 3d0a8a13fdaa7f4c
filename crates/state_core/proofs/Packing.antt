-- A swept zone with no moving page and no pair is packed.
use Rattle.std.proofs.Common.{◌≡◌, ℕ, zero, suc, ◌+◌, ◌-◌, ◌<◌, ◌≤◌, Bool, true, false, not, inl, inr, refl, sym, ap, ◌∙◌, arith}
use Rattle.std.specs.Prelude.{Option, Some, None, length, ◌&&◌, ◌↔◌}
use Rattle.std.specs.FinMap as map
use Rattle.std.proofs.lemmas.Bool.{both_ways, eqb-true, false_from_ne_true, true_from_ne_false, not-true}
use Rattle.std.proofs.lemmas.Bool.Decides.{eqb_tells, leb_tells}
use Rattle.frame_core.proofs.Searches.{some_one, lowest_some, lowest_before, no_lowest, count_same, count_stay, count_up, count_next}
use Rattle.frame_core.specs.Below.{count_below}
use Rattle.frame_core.specs.Moves.{out}
use Rattle.state_core.specs.declared.placement.Placement.{Placement}
use Rattle.state_core.specs.declared.placement.Placement.TheVariants.{At, Moving}
use Rattle.state_core.specs.Valid.{IsValidZone}
use Rattle.state_core.specs.Packed.{IsPacked, is_unmarked, place_of, unmarked_free}
use Rattle.state_core.specs.Pairs.{IsSource, HaveMet, is_marked, next_source, next_target}
use Rattle.state_core.specs.Swept.{IsSwept}
use Rattle.state_core.specs.ZoneState.{ZoneState, frame_count, takes_up, is_used, is_held, is_free, is_quiet}
use Rattle.frame_core.proofs.Bounds.{no_highest}
use Rattle.state_core.proofs.Pairing.{is_from, is_to, source_passes, passes_source, target_passes, found_pair}
use Rattle.state_core.proofs.Holding.{at_rest, at_takes}
use Rattle.state_core.proofs.Places.{untaken}

-- Counts of two tests, where the second passes exactly below a bound.

module _ (p : ℕ → Bool) where
  pub count_rises : (m k : ℕ) → count_below p m ≤ count_below p (m + k)
  count_rises m zero = let same : m + 0 ≡ m = omega arith in let e = ap (count_below p) same in omega arith
  count_rises m (suc k) =
      let same : m + suc k ≡ (m + k) + 1 = omega arith in
      let e = ap (count_below p) same in
      omega (arith, count_rises m k, count_next p (m + k))

  pub count_mono : (m n : ℕ) → m ≤ n → count_below p m ≤ count_below p n
  count_mono m n h =
      let rest : m + (n - m) ≡ n = omega arith in
      let e = ap (count_below p) rest in
      omega (arith, count_rises m (n - m))

  -- a number that passes is below a bound exactly where its place among those that pass is below the bound's
  pub before_bound : (k bound : ℕ) → p k ≡ true → (k < bound) ↔ (count_below p k < count_below p bound)
  before_bound k bound passes = (
    λ h. omega (arith, count_up p k passes, count_mono (k + 1) bound (omega arith)),
    λ h. elim (leb_tells bound k) [
      | inl past ↦ absurd (omega (arith, count_mono bound k past.1))
      | inr under ↦ under.1
    ],
  )

if_open : (a b : Bool) → (a ≡ true → b ≡ true) → (a && b) ≡ a
if_open a b h = grind (arith, h)

if_shut : (a b : Bool) → (a ≡ true → b ≡ false) → (a && b) ≡ false
if_shut a b h = grind (arith, h)

-- where the counted numbers below a size are free up to a bound and not from there on, the number of free ones is that of the
-- counted ones below the bound
module _ (counted free : ℕ → Bool) (size bound : ℕ) (low : (k : ℕ) → k < bound → counted k ≡ true → free k ≡ true) (high : (k : ℕ) → bound ≤ k → k < size → counted k ≡ true → free k ≡ false) where
  count_to : (rest : ℕ) → bound + rest ≤ size → count_below (λ k. counted k && free k) (bound + rest) ≡ count_below counted bound
  count_to zero within =
      let same : bound + 0 ≡ bound = omega arith in
      ap (count_below (λ k. counted k && free k)) same
      ∙ count_same (λ k. counted k && free k) counted bound (λ k h. if_open (counted k) (free k) (low k h))
  count_to (suc rest) within =
      let same : bound + suc rest ≡ (bound + rest) + 1 = omega arith in
      ap (count_below (λ k. counted k && free k)) same
      ∙ count_stay (λ k. counted k && free k) (bound + rest) (if_shut (counted (bound + rest)) (free (bound + rest)) (high (bound + rest) (omega arith) (omega arith)))
      ∙ count_to rest (omega arith)

  pub count_open : bound ≤ size → count_below (λ k. counted k && free k) size ≡ count_below counted bound
  count_open within =
      let rest : bound + (size - bound) ≡ size = omega arith in
      sym (ap (count_below (λ k. counted k && free k)) rest) ∙ count_to (size - bound) (omega arith)

-- the frames of unmarked pageblocks are free up to a bound, and not from there on
record IsParted (z : ZoneState) (bound : ℕ) : Type 0 where
  within : bound ≤ frame_count z
  low : (frame : ℕ) → frame < bound → is_marked z frame ≡ false → is_free z frame ≡ true
  high : (frame : ℕ) → bound ≤ frame → frame < frame_count z → is_marked z frame ≡ false → is_free z frame ≡ false

packed_parted : (v : ZoneState) (bound : ℕ) → IsParted v bound → IsPacked v
packed_parted v bound parted = record {
  each = λ frame within unmarked.
      let count : unmarked_free v ≡ place_of v bound =
      count_open (is_unmarked v) (is_free v) (frame_count v) bound
      (λ k h e. parted.low k h (not-true (is_marked v k) e)) (λ k h l e. parted.high k h l (not-true (is_marked v k) e)) parted.within in
      let place = before_bound (is_unmarked v) frame bound (ap not unmarked) in (
        λ free. elim (leb_tells bound frame) [
          | inl past ↦ absurd (both_ways _ (parted.high frame past.1 within unmarked) free)
          | inr under ↦ omega (arith, place.0 under.1)
        ],
        λ h. parted.low frame (place.1 (omega arith)) unmarked,
      );
}

used_of : (a b : Bool) → (not a && not b) ≡ false → b ≡ false → a ≡ true
used_of a b e f = grind (arith, e, f)

-- a page that takes up a frame and isn't moving is in this frame
takes_at : (o : Option Placement) (frame : ℕ) → ((serial source target : ℕ) → o ≡ Some (Moving serial source target) → ⊥) → takes_up o frame ≡ true → o ≡ Some (At frame)
takes_at None frame rest e = cc
takes_at (Some (At f)) frame rest e = ap (λ (g : ℕ). Some (At g)) (sym (eqb-true frame f e))
takes_at (Some (Moving serial source target)) frame rest e = absurd (rest serial source target refl)

module _ (v : ZoneState) (law : IsValidZone v) (swept : IsSwept v) (none : length (out v.records) ≡ 0) where
  full : (page frame : ℕ) → map.get v.placement page ≡ Some (At frame) → is_free v frame ≡ false
  full page frame at = false_from_ne_true _ (λ free. both_ways _ (untaken v law frame free page) (at_takes _ frame at))

  holds : (frame : ℕ) → frame < frame_count v → is_marked v frame ≡ false → is_free v frame ≡ false → (page : ℕ) × (map.get v.placement page ≡ Some (At frame))
  holds frame within unmarked used =
      let one = some_one (λ page. takes_up (map.get v.placement page) frame) (frame_count v) (used_of (is_used v frame) (is_held v frame) used (swept.unheld frame within unmarked)) in
      (one.0, takes_at (map.get v.placement one.0) frame (at_rest v law none one.0) one.2)

  -- a frame between the fingers that isn't free is a source
  source_at : (frame : ℕ) → frame < v.free → is_marked v frame ≡ false → is_free v frame ≡ false → (page : ℕ) × IsSource v page frame
  source_at frame high unmarked used =
      let one = holds frame (omega (arith, law.fingers.ordered.1)) unmarked used in
      (one.0, record { here = one.1; movable = swept.movable one.0 frame one.1 unmarked; unmarked = unmarked; low = swept.below one.0 frame one.1 unmarked; high = high })

  -- where no search for a source stops below a bound, all frames below it are free
  free_below : (bound : ℕ) → bound ≤ v.free → ((frame : ℕ) → frame < bound → is_from v frame ≡ false) → (frame : ℕ) → frame < bound → is_marked v frame ≡ false → is_free v frame ≡ true
  free_below bound within stops frame h unmarked = true_from_ne_false (is_free v frame) (λ used.
      (let one = source_at frame (omega arith) unmarked used in
      both_ways _ (stops frame h) (source_passes v law one.0 frame one.1)))

  by_target : (source page : ℕ) → next_source v ≡ Some source → IsSource v page source → next_target v source ≡ None → IsParted v source
  by_target source page from is stays = record {
    within = omega (arith, is.high, law.fingers.ordered.1);
    low = free_below source (omega (arith, is.high)) (λ frame h. lowest_before (is_from v) v.free source frame from h);
    high = λ frame h within unmarked. elim (eqb_tells frame source) [
      | inl here ↦ ap (is_free v) here.1 ∙ full page source is.here
      | inr other ↦ elim (leb_tells v.free frame) [
        | inl past ↦ swept.above frame past.1 within unmarked
        | inr under ↦ false_from_ne_true (is_free v frame) (λ free.
            (let ne = other.1 in
            let low : source < frame = omega arith in
            both_ways _ (no_highest (is_to v source) v.free frame stays under.1)
            (target_passes v law source frame (record { free = free; unmarked = unmarked; low = low; high = under.1 }))))
      ]
    ];
  }

  module _ (met : HaveMet v) where
    with_target : (source page : ℕ) → next_source v ≡ Some source → IsSource v page source → ((target : ℕ) → next_target v source ≡ Some target → ⊥) → (o : Option ℕ) → next_target v source ≡ o → IsParted v source
    with_target source page from is never None e = by_target source page from is e
    with_target source page from is never (Some target) e = absurd (never target e)

    by_source : (o : Option ℕ) → next_source v ≡ o → (bound : ℕ) × IsParted v bound
    by_source None e = (
      v.free,
      record {
        within = law.fingers.ordered.1;
        low = free_below v.free (omega arith) (λ frame h. no_lowest (is_from v) v.free frame e h);
        high = swept.above;
      },
    )
    by_source (Some source) e =
        let found = lowest_some (is_from v) v.free source e in
        let one = passes_source v law source found.0 found.1 in
        (source, with_target source one.0 e one.2 (λ target to. met one.0 source target (found_pair v law one.0 source target e one.1 to)) (next_target v source) refl)

    pub packed : IsPacked v
    packed = let parted = by_source (next_source v) refl in packed_parted v parted.0 parted.1

-- a quiet zone with no page out and no pair is packed
pub packed_quiet : (v : ZoneState) → IsValidZone v → is_quiet v ≡ true → length (out v.records) ≡ 0 → HaveMet v → IsPacked v
packed_quiet v law quiet = packed v law (law.fingers.swept quiet)
