-- The maximal runs of an order are its free runs, but for the halves of the free runs of the next order.
use Rattle.std.proofs.Common.{◌≡◌, ℕ, zero, suc, ◌+◌, ◌-◌, ◌*◌, ◌/◌, ◌^◌, ◌<◌, ◌≤◌, Bool, true, false, not, ◌&&◌, add-one, refl, sym, ap, ◌∙◌, arith}
use Rattle.std.specs.Prelude.{nat_eq, nat_le}
use Rattle.std.proofs.Math.Nat.{mul_assoc, div-div-eq-div-mul, mul-div_cancel, mul-le-mul_right}
use Rattle.std.proofs.lemmas.Bool.{eq-eqb, le-leb, lt-ltb}
use Rattle.std.proofs.lemmas.Nat.{pow-add, pow_pos}
use Rattle.frame_core.proofs.Searches.{count_same}
use Rattle.frame_core.specs.Below.{count_below, count_from, one_if, sum_below}
use Rattle.frame_core.specs.Order.{is_aligned}
use Rattle.scan_core.specs.NumberSet.{all_from}
use Rattle.scan_core.proofs.CountedRuns.{count_aligned, passes_aligned}
use Rattle.scan_core.proofs.WholeRuns.{halves}
use Rattle.state_core.specs.HandingOut.{is_run}
use Rattle.state_core.specs.ZoneState.{ZoneState, frame_count, is_free}
use Rattle.zone_core.specs.FreeRuns.{free_frames, is_in_run, is_maximal_run, maximal_runs}

regroup : (a b c : Bool) → ((a && b) && c) ≡ (a && (b && c))
regroup true b c = refl
regroup false b c = refl

regroup_all : (a b c d : Bool) → (((a && b) && c) && d) ≡ (a && ((b && c) && d))
regroup_all true b c d = refl
regroup_all false b c d = refl

and_true : (b : Bool) → (b && true) ≡ b
and_true true = refl
and_true false = refl

-- of two halves, those that are free without the other, and twice the whole
one_by_one : (a b : Bool) → one_if b + one_if a ≡ one_if (b && not (a && b)) + one_if (a && not (a && b)) + 2 * one_if (a && b)
one_by_one true true = refl
one_by_one true false = refl
one_by_one false true = refl
one_by_one false false = refl

is_one : (b : Bool) → nat_eq (one_if b + 0) 1 ≡ b
is_one true = refl
is_one false = refl

one_frame : (p : ℕ → Bool) (frame : ℕ) → all_from p frame 1 ≡ p frame
unfolding count_from
one_frame p frame = let first : frame + 0 ≡ frame = omega arith in is_one (p (frame + 0)) ∙ ap p first

module _ (z : ZoneState) where
  -- whether all frames of a run are free, which has this number among the runs of its order
  abbrev free_run : ℕ → ℕ → Bool
  free_run order run = all_from (is_free z) (run * 2 ^ order) (2 ^ order)

  -- whether the frames of an order from one on are in the zone, and free
  abbrev lies_free : ℕ → ℕ → Bool
  lies_free order first = nat_le (first + 2 ^ order) (frame_count z) && all_from (is_free z) first (2 ^ order)

  -- how many runs of an order a zone has
  abbrev run_count : ℕ → ℕ
  run_count order = z.blocks * 2 ^ (9 - order)

  module _ (order : ℕ) (high : order ≤ 9) where
    runs_fill : run_count order * 2 ^ order ≡ frame_count z
    runs_fill =
        let all : 9 - order + order ≡ 9 = omega arith in
        let whole : 2 ^ (9 - order) * 2 ^ order ≡ 512 = sym (pow-add 2 (9 - order) order) ∙ ap (λ (n : ℕ). 2 ^ n) all in
        mul_assoc z.blocks (2 ^ (9 - order)) (2 ^ order) ∙ ap (λ (n : ℕ). z.blocks * n) whole ∙ omega arith

    fits : (run : ℕ) → run < run_count order → nat_le (run * 2 ^ order + 2 ^ order) (frame_count z) ≡ true
    fits run low =
        let next : run + 1 ≤ run_count order = omega (arith, low) in
        let end : (run + 1) * 2 ^ order ≡ run * 2 ^ order + 2 ^ order = omega arith in
        le-leb _ _ (omega (arith, mul-le-mul_right (2 ^ order) next, end, runs_fill))

    run_at : (run : ℕ) → run < run_count order → is_run z order (run * 2 ^ order) ≡ free_run order run
    run_at run low =
        let aligned : run * 2 ^ order / 2 ^ order * 2 ^ order ≡ run * 2 ^ order = ap (λ (n : ℕ). n * 2 ^ order) (mul-div_cancel run (pow_pos order)) in
        λ i. (eq-eqb _ _ aligned i && fits run low i) && free_run order run

    -- what passes at the first frames of runs alone is counted by the numbers of the runs
    by_number : (p r : ℕ → Bool) → ((first : ℕ) → p first ≡ passes_aligned r (2 ^ order) (pow_pos order) first) → count_below p (frame_count z) ≡ count_below (λ run. r (run * 2 ^ order)) (run_count order)
    by_number p r same =
        count_same p (passes_aligned r (2 ^ order) (pow_pos order)) (frame_count z) (λ k h. same k)
        ∙ ap (count_below (passes_aligned r (2 ^ order) (pow_pos order))) (sym runs_fill) ∙ count_aligned r (2 ^ order) (pow_pos order) (run_count order)

    free_counted : count_below (is_run z order) (frame_count z) ≡ count_below (free_run order) (run_count order)
    free_counted =
        by_number (is_run z order) (lies_free order) (λ first. regroup (is_aligned order first) (nat_le (first + 2 ^ order) (frame_count z)) (all_from (is_free z) first (2 ^ order)))
        ∙ count_same (λ run. lies_free order (run * 2 ^ order)) (free_run order) (run_count order) (λ run low. ap (λ b. b && free_run order run) (fits run low))

  module _ (order : ℕ) (few : order < 9) where
    double : 2 ^ (order + 1) ≡ 2 ^ order * 2
    double = pow-add 2 order 1

    twice : run_count order ≡ run_count (order + 1) + run_count (order + 1)
    twice =
        let next : 9 - order ≡ 9 - (order + 1) + 1 = omega arith in
        let more : 2 ^ (9 - order) ≡ 2 ^ (9 - (order + 1)) * 2 = ap (λ (n : ℕ). 2 ^ n) next ∙ pow-add 2 (9 - (order + 1)) 1 in
        ap (λ (n : ℕ). z.blocks * n) more ∙ omega arith

    -- the larger run that a run lies in
    in_larger : (run : ℕ) → run < run_count order → is_in_run z (order + 1) (run * 2 ^ order) ≡ free_run (order + 1) (run / 2)
    in_larger run low =
        let half : run * 2 ^ order / 2 ^ (order + 1) ≡ run / 2 =
        ap (λ (n : ℕ). run * 2 ^ order / n) double ∙ sym (div-div-eq-div-mul (run * 2 ^ order) (2 ^ order) 2) ∙ ap (λ (n : ℕ). n / 2) (mul-div_cancel run (pow_pos order)) in
        (λ i. lt-ltb (order + 1) 10 (omega (arith, few)) i && is_run z (order + 1) (half i * 2 ^ (order + 1)))
        ∙ run_at (order + 1) (omega (arith, few)) (run / 2) (omega (arith, low, twice))

    -- a run that is free and lies in no larger one
    abbrev maximal_run : ℕ → Bool
    maximal_run run = free_run order run && not (free_run (order + 1) (run / 2))

    maximal_counted : maximal_runs z order ≡ count_below maximal_run (run_count order)
    maximal_counted =
        let high : order ≤ 9 = omega (arith, few) in
        by_number order high (is_maximal_run z order) (λ first. lies_free order first && not (is_in_run z (order + 1) first))
        (λ first. regroup_all (is_aligned order first) (nat_le (first + 2 ^ order) (frame_count z)) (all_from (is_free z) first (2 ^ order)) (not (is_in_run z (order + 1) first)))
        ∙ count_same (λ run. lies_free order (run * 2 ^ order) && not (is_in_run z (order + 1) (run * 2 ^ order))) maximal_run (run_count order)
        (λ run low. λ i. (fits order high run low i && free_run order run) && not (in_larger run low i))

    both_halves : (run : ℕ) → free_run (order + 1) run ≡ (free_run order (run + run) && free_run order (suc (run + run)))
    both_halves run =
        let size : 2 ^ (order + 1) ≡ 2 ^ order + 2 ^ order = omega (arith, double) in
        let first : run * (2 ^ order + 2 ^ order) ≡ (run + run) * 2 ^ order = omega arith in
        let second : (run + run) * 2 ^ order + 2 ^ order ≡ suc (run + run) * 2 ^ order = omega arith in
        (λ i. all_from (is_free z) (run * size i) (size i)) ∙ ap (λ (n : ℕ). all_from (is_free z) n (2 ^ order + 2 ^ order)) first
        ∙ halves (is_free z) ((run + run) * 2 ^ order) (2 ^ order)
        ∙ ap (λ (n : ℕ). free_run order (run + run) && all_from (is_free z) n (2 ^ order)) second

    by_halves : (n : ℕ) → count_below (free_run order) (n + n) ≡ count_below maximal_run (n + n) + 2 * count_below (free_run (order + 1)) n
    by_halves zero = refl
    by_halves (suc n) =
        let even : (n + n) / 2 ≡ n = omega arith in
        let odd : suc (n + n) / 2 ≡ n = omega arith in
        let next : suc n + suc n ≡ suc (suc (n + n)) = omega arith in
        let free : count_below (free_run order) (suc n + suc n) ≡ one_if (free_run order (suc (n + n))) + (one_if (free_run order (n + n)) + count_below (free_run order) (n + n)) = ap (count_below (free_run order)) next in
        let maximal : count_below maximal_run (suc n + suc n) ≡ one_if (maximal_run (suc (n + n))) + (one_if (maximal_run (n + n)) + count_below maximal_run (n + n)) = ap (count_below maximal_run) next in
        let first : one_if (maximal_run (n + n)) ≡ one_if (free_run order (n + n) && not (free_run order (n + n) && free_run order (suc (n + n)))) =
        λ i. one_if (free_run order (n + n) && not ((ap (free_run (order + 1)) even ∙ both_halves n) i)) in
        let second : one_if (maximal_run (suc (n + n))) ≡ one_if (free_run order (suc (n + n)) && not (free_run order (n + n) && free_run order (suc (n + n)))) =
        λ i. one_if (free_run order (suc (n + n)) && not ((ap (free_run (order + 1)) odd ∙ both_halves n) i)) in
        let larger : one_if (free_run (order + 1) n) ≡ one_if (free_run order (n + n) && free_run order (suc (n + n))) = ap one_if (both_halves n) in
        omega (arith, free, maximal, first, second, larger, one_by_one (free_run order (n + n)) (free_run order (suc (n + n))), by_halves n)

    -- the free runs of an order are the maximal ones, and two in each free run of the next order
    pub runs_by_parents : count_below (is_run z order) (frame_count z) ≡ maximal_runs z order + 2 * count_below (is_run z (order + 1)) (frame_count z)
    runs_by_parents =
        let high : order ≤ 9 = omega (arith, few) in
        let next : order + 1 ≤ 9 = omega (arith, few) in
        free_counted order high ∙ ap (count_below (free_run order)) twice ∙ by_halves (run_count (order + 1))
        ∙ (λ i. (ap (count_below maximal_run) (sym twice) ∙ sym maximal_counted) i + 2 * sym (free_counted (order + 1) next) i)

    -- of the runs of all orders, one fewer for each free run of the next order
    module _ (runs next : ℕ) (runs_are : runs ≡ sum_below (maximal_runs z) order + count_below (is_run z order) (frame_count z)) (next_are : next ≡ count_below (is_run z (order + 1)) (frame_count z)) where
      pub next_within : next ≤ runs
      next_within = omega (arith, runs_are, next_are, runs_by_parents)

      pub runs_upto_next : runs - next ≡ sum_below (maximal_runs z) (order + 1) + count_below (is_run z (order + 1)) (frame_count z)
      runs_upto_next =
          let sum : sum_below (maximal_runs z) (order + 1) ≡ maximal_runs z order + sum_below (maximal_runs z) order = rw add-one refl in
          omega (arith, runs_are, next_are, runs_by_parents, sum)

  -- a run of one frame is free where the frame is
  alone : (frame : ℕ) → frame < frame_count z → is_run z 0 frame ≡ is_free z frame
  alone frame within =
      let aligned : frame / 2 ^ 0 * 2 ^ 0 ≡ frame = omega arith in
      λ i. (eq-eqb _ _ aligned i && le-leb (frame + 2 ^ 0) (frame_count z) (omega (arith, within)) i) && one_frame (is_free z) frame i

  pub frames_are_runs : free_frames z ≡ count_below (is_run z 0) (frame_count z)
  frames_are_runs = sym (count_same (is_run z 0) (is_free z) (frame_count z) alone)

  -- a free run of a whole pageblock lies in no larger one
  pub whole_runs_maximal : count_below (is_run z 9) (frame_count z) ≡ maximal_runs z 9
  whole_runs_maximal = sym (count_same (is_maximal_run z 9) (is_run z 9) (frame_count z) (λ first h. and_true (is_run z 9 first)))
