-- An evacuation that isn't refused: what is known before it, and what is true after it.
use Rattle.std.proofs.Common.{◌≡◌, ℕ, zero, suc, ◌+◌, ◌-◌, ◌*◌, ◌/◌, ◌^◌, ◌<◌, ◌≤◌, Bool, true, false, not, ◌&&◌, cond, [], ◌∷◌, length, refl, sym, ap, subst, ◌∙◌, arith}
use Rattle.std.specs.Prelude.{Some, None, nat_le}
use Rattle.std.proofs.Math.Bool.{or-false}
use Rattle.std.proofs.lemmas.Bool.{and_left, and_parts, and_from, cond-false, cond-true, eq-eqb, eqb-true, false_from_ne_true, le-leb, leb-true, or_parts}
use Rattle.frame_core.proofs.Searches.{count_from_all, count_from_same, count_same}
use Rattle.frame_core.specs.Below.{count_below, count_from, one_if}
use Rattle.frame_core.specs.Moves.{moved, out}
use Rattle.frame_core.specs.Order.{is_aligned}
use Rattle.state_core.specs.declared.error.ZoneError.{ZoneError}
use Rattle.state_core.specs.HandingOut.{has_block, is_run}
use Rattle.state_core.specs.Packed.{unmarked_free}
use Rattle.state_core.specs.Pairs.{holder, is_free_unmarked, is_marked}
use Rattle.state_core.specs.ZoneState.{ZoneState, frame_count, is_free, is_held, is_used}
use Rattle.state_core.proofs.Runs.{count_from_none, count_split}
use Rattle.fewest_core.specs.Evacuation.{can_empty, emptied, evacuate_refusal, evacuated, has_room_for_moves, highest_spare, is_in_run, is_spare, moved_out, spare_frames, IsCarriedOut}
use Rattle.fewest_core.specs.FewestMoves.{cost, is_open, is_shut}
use Rattle.fewest_core.specs.Reservation.{cleared, is_in_runs}
use Rattle.fewest_core.proofs.Counts.{none_counted}
use Rattle.fewest_core.proofs.OpenRuns.{block_within, cost_is, open_is}
use Rattle.zone_core.specs.Emptying.{HasEnough, IsEmptying, pages_below}
use Rattle.zone_core.proofs.Clearing.{both_same}
use Rattle.zone_core.proofs.Emptying.{in_run, none_above_run, pages_of_run, run_bounds}

three_tests : (a b c : Bool) (x y w : ZoneError) → cond (not a) (Some x) (cond (not b) (Some y) (cond (not c) (Some w) None)) ≡ None → (a ≡ true) × (b ≡ true) × (c ≡ true)
three_tests true true true x y w e = (refl, refl, refl)
three_tests true true false x y w e = cc
three_tests true false c x y w e = cc
three_tests false b c x y w e = cc

-- a frame is in the only run where it is in one of the runs
pub alone : (first size : ℕ) → is_in_runs (first ∷ []) size ≡ is_in_run first size
alone first size = λ i frame. or-false (is_in_run first size frame) i

-- emptying one run, frame by frame of the zone or frame by frame of the run
module _ (first size : ℕ) (z : ZoneState) where
  out_of_run : (frame : ℕ) → (frame < first + size → frame < first) → is_in_run first size frame ≡ false
  out_of_run frame off = false_from_ne_true _ (λ e. let bounds = run_bounds first size frame e in absurd (omega (arith, bounds.0, off bounds.1)))

  below : (n : ℕ) → n ≤ first → cleared (is_in_run first size) z n ≡ z
  below zero low = refl
  below (suc n) low =
      let before = cleared (is_in_run first size) z n in
      cond-false (is_in_run first size n) (moved_out before (holder before n) n (highest_spare first size before)) before (out_of_run n (λ h. omega (arith, low))) ∙ below n (omega (arith, low))

  within : (n : ℕ) → n ≤ size → cleared (is_in_run first size) z (first + n) ≡ emptied first size z n
  within zero few = let same : first + 0 ≡ first = omega arith in ap (cleared (is_in_run first size) z) same ∙ below first (omega arith)
  within (suc n) few =
      let next : first + suc n ≡ suc (first + n) = omega arith in
      let before = cleared (is_in_run first size) z (first + n) in
      ap (cleared (is_in_run first size) z) next
      ∙ cond-true (is_in_run first size (first + n)) (moved_out before (holder before (first + n)) (first + n) (highest_spare first size before)) before (in_run first size (first + n) (omega arith) (omega (arith, few)))
      ∙ ap (λ (u : ZoneState). moved_out u (holder u (first + n)) (first + n) (highest_spare first size u)) (within n (omega (arith, few)))

  above : (d : ℕ) → cleared (is_in_run first size) z (first + size + d) ≡ evacuated z first size
  above zero = let same : first + size + 0 ≡ first + size = omega arith in ap (cleared (is_in_run first size) z) same ∙ within size (omega arith)
  above (suc d) =
      let next : first + size + suc d ≡ suc (first + size + d) = omega arith in
      let before = cleared (is_in_run first size) z (first + size + d) in
      ap (cleared (is_in_run first size) z) next
      ∙ cond-false (is_in_run first size (first + size + d)) (moved_out before (holder before (first + size + d)) (first + size + d) (highest_spare first size before)) before (out_of_run (first + size + d) (λ h. absurd (omega (arith, h))))
      ∙ above d

  pub cleared_alone : (frames : ℕ) → first + size ≤ frames → cleared (is_in_run first size) z frames ≡ evacuated z first size
  cleared_alone frames fits = let all : first + size + (frames - (first + size)) ≡ frames = omega (arith, fits) in ap (cleared (is_in_run first size) z) (sym all) ∙ above (frames - (first + size))

-- where of each two tests of a number one passes
complement : (p q : ℕ → Bool) (n : ℕ) → ((k : ℕ) → k < n → q k ≡ not (p k)) → count_below p n + count_below q n ≡ n
complement p q zero other = omega arith
complement p q (suc n) other = omega (arith, complement p q n (λ k h. other k (omega (arith, h))), one_of (p n) (q n) (other n (omega arith))) where
  one_of : (a b : Bool) → b ≡ not a → one_if a + one_if b ≡ 1
  one_of true b is = ap (λ c. 1 + one_if c) is
  one_of false b is = ap (λ c. 0 + one_if c) is

complement_from : (p q : ℕ → Bool) (first n : ℕ) → ((k : ℕ) → first ≤ k → k < first + n → q k ≡ not (p k)) → count_from p first n + count_from q first n ≡ n
unfolding count_from
complement_from p q first n other = complement (λ k. p (first + k)) (λ k. q (first + k)) n (λ k h. other (first + k) (omega arith) (omega (arith, h)))

-- an unmarked frame that isn't handed out is free unless it is used
vacant_unless : (marked held used : Bool) → marked ≡ false → held ≡ false → used ≡ not (not marked && (not used && not held))
vacant_unless false false true unmarked unheld = refl
vacant_unless false false false unmarked unheld = refl
vacant_unless true held used unmarked unheld = cc
vacant_unless false true used unmarked unheld = cc

module _ (z : ZoneState) (first order : ℕ) (has : has_block z order first ≡ true) (opened : is_open z (2 ^ order) (first / 2 ^ order) ≡ true) where
  abbrev frames_of : ℕ
  frames_of = 2 ^ order

  pub unshut : (frame : ℕ) → is_in_run first frames_of frame ≡ true → is_shut z frame ≡ false
  unshut frame there =
      let bounds = run_bounds first frames_of frame there in
      none_counted (is_shut z) first frames_of frame (eqb-true _ 0 (sym (open_is z first order has) ∙ opened)) bounds.0 bounds.1

  costs_it : cost z frames_of (first / frames_of) ≡ count_from (is_used z) first frames_of
  costs_it = cost_is z first order has

  fits : first + frames_of ≤ frame_count z
  fits = block_within z first order has

  abbrev rest : ℕ
  rest = frame_count z - (first + frames_of)

  whole : first + frames_of + rest ≡ frame_count z
  whole = omega (arith, fits)

  in_three : (p : ℕ → Bool) → count_below p (frame_count z) ≡ count_below p first + count_from p first frames_of + count_from p (first + frames_of) rest
  in_three p = omega (arith, ap (count_below p) whole, count_split p (first + frames_of) rest, count_split p first frames_of)

  vacant_here : (frame : ℕ) → first ≤ frame → frame < first + frames_of → is_used z frame ≡ not (is_free_unmarked z frame)
  vacant_here frame low high =
      let parts = or_parts (is_marked z frame) _ (unshut frame (in_run first frames_of frame low high)) in
      vacant_unless (is_marked z frame) (is_held z frame) (is_used z frame) parts.0 (or_parts (is_held z frame) _ parts.1).0

  spare_if : (frame : ℕ) → is_in_run first frames_of frame ≡ false → is_free_unmarked z frame ≡ is_spare first frames_of z frame
  spare_if frame off = ap (λ b. not b && is_free_unmarked z frame) (sym off)

  -- the free frames of unmarked pageblocks are those outside of the run, and those of the run that have no page
  all_vacant : unmarked_free z + cost z frames_of (first / frames_of) ≡ spare_frames first frames_of z + frames_of
  all_vacant =
      let below = count_same (is_free_unmarked z) (is_spare first frames_of z) first (λ frame h. spare_if frame (out_of_run first frames_of z frame (λ high. h))) in
      let above = count_from_same (is_free_unmarked z) (is_spare first frames_of z) (first + frames_of) rest (λ frame low high. spare_if frame (out_of_run first frames_of z frame (λ under. absurd (omega (arith, low, under))))) in
      let none = count_from_none (is_spare first frames_of z) first frames_of (λ k h. and_left (not (is_in_run first frames_of (first + k))) _ (ap not (in_run first frames_of (first + k) (omega arith) (omega (arith, h))))) in
      let one = complement_from (is_free_unmarked z) (is_used z) first frames_of vacant_here in
      omega (arith, in_three (is_free_unmarked z), in_three (is_spare first frames_of z), below, above, none, one, costs_it)

  pub enough_spare : nat_le frames_of (unmarked_free z) ≡ nat_le (cost z frames_of (first / frames_of)) (spare_frames first frames_of z)
  enough_spare = both_same (nat_le frames_of (unmarked_free z)) (nat_le (cost z frames_of (first / frames_of)) (spare_frames first frames_of z))
      (λ e. le-leb (cost z frames_of (first / frames_of)) (spare_frames first frames_of z) (omega (arith, all_vacant, leb-true frames_of (unmarked_free z) e)))
      (λ e. le-leb frames_of (unmarked_free z) (omega (arith, all_vacant, leb-true (cost z frames_of (first / frames_of)) (spare_frames first frames_of z) e)))

  -- all pages of the run are below its end
  pages_are : pages_below (is_in_run first frames_of) z (frame_count z) ≡ cost z frames_of (first / frames_of)
  pages_are = none_above_run first frames_of (frame_count z) z fits ∙ pages_of_run first frames_of z ∙ sym costs_it

-- before it
module _ (z : ZoneState) (first order : ℕ) (accepted : evacuate_refusal z first order ≡ None) where
  tests : (has_block z order first ≡ true) × (can_empty z first (2 ^ order) ≡ true) × (has_room_for_moves z (cost z (2 ^ order) (first / 2 ^ order)) ≡ true)
  tests = three_tests (has_block z order first) (can_empty z first (2 ^ order)) (has_room_for_moves z (cost z (2 ^ order) (first / 2 ^ order))) _ _ _ accepted

  can_parts : (is_open z (2 ^ order) (first / 2 ^ order) ≡ true) × (nat_le (cost z (2 ^ order) (first / 2 ^ order)) (spare_frames first (2 ^ order) z) ≡ true)
  can_parts = and_parts (is_open z (2 ^ order) (first / 2 ^ order)) _ tests.1

  enough_for : HasEnough (is_in_run first (2 ^ order)) z
  enough_for =
      let pages = pages_are z first order tests.0 can_parts.0 in
      record {
        spare = omega (arith, pages, leb-true (cost z (2 ^ order) (first / 2 ^ order)) (spare_frames first (2 ^ order) z) can_parts.1);
        room = omega (arith, pages, leb-true (length (out z.records) + 2 * cost z (2 ^ order) (first / 2 ^ order)) z.room tests.2);
      }

  pub enough : HasEnough (is_in_runs (first ∷ []) (2 ^ order)) z
  enough = subst (λ (p : ℕ → Bool). HasEnough p z) (sym (alone first (2 ^ order))) enough_for

  run_of : (frame : ℕ) → is_in_runs (first ∷ []) (2 ^ order) frame ≡ true → is_in_run first (2 ^ order) frame ≡ true
  run_of frame there = sym (λ i. alone first (2 ^ order) i frame) ∙ there

  pub within_zone : (frame : ℕ) → is_in_runs (first ∷ []) (2 ^ order) frame ≡ true → frame < frame_count z
  within_zone frame there = omega (arith, (run_bounds first (2 ^ order) frame (run_of frame there)).1, fits z first order tests.0 can_parts.0)

  pub open_there : (frame : ℕ) → is_in_runs (first ∷ []) (2 ^ order) frame ≡ true → is_shut z frame ≡ false
  open_there frame there = unshut z first order tests.0 can_parts.0 frame (run_of frame there)

  -- and after it
  module _ (new : ZoneState) (emptied_all : IsEmptying (is_in_runs (first ∷ []) (2 ^ order)) z new (frame_count z)) where
    is : IsEmptying (is_in_run first (2 ^ order)) z new (frame_count z)
    is = subst (λ (p : ℕ → Bool). IsEmptying p z new (frame_count z)) (alone first (2 ^ order)) emptied_all

    pub zone_is : new ≡ cleared (is_in_runs (first ∷ []) (2 ^ order)) z (frame_count z) → new ≡ evacuated z first (2 ^ order)
    zone_is same = same ∙ ap (λ (p : ℕ → Bool). cleared p z (frame_count z)) (alone first (2 ^ order)) ∙ cleared_alone first (2 ^ order) z (frame_count z) (fits z first order tests.0 can_parts.0)

    pub carried_out : IsCarriedOut first (2 ^ order) z new
    carried_out = is.carried

    pub identity_is : (new.number ≡ z.number) × (new.blocks ≡ z.blocks)
    identity_is = (is.number, is.blocks)

    pub moved_all : moved new.records ≡ moved z.records + cost z (2 ^ order) (first / 2 ^ order)
    moved_all = omega (arith, is.moved, pages_are z first order tests.0 can_parts.0)

    freed : (frame : ℕ) → first ≤ frame → frame < first + 2 ^ order → is_free new frame ≡ true
    freed frame low high =
        let there = in_run first (2 ^ order) frame low high in
        let unheld = (or_parts (is_held new frame) _ (or_parts _ _ (is.unshut frame there)).1).0 in
        and_from (not (is_used new frame)) (not (is_held new frame)) (ap not (is.empty frame there (omega (arith, high, fits z first order tests.0 can_parts.0)))) (ap not unheld)

    pub run_free : is_run new order first ≡ true
    run_free = and_from (has_block new order first) _
        (ap (λ (blocks : ℕ). is_aligned order first && nat_le (first + 2 ^ order) (512 * blocks)) is.blocks ∙ tests.0)
        (eq-eqb (count_from (is_free new) first (2 ^ order)) (2 ^ order) (count_from_all (is_free new) first (2 ^ order) freed))
