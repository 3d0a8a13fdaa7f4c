-- The free frames are at most 512 times the free runs that lie in no larger one.
use Rattle.std.proofs.Common.{◌≡◌, ℕ, zero, suc, ◌+◌, ◌-◌, ◌*◌, ◌/◌, ◌^◌, ◌<◌, ◌≤◌, Bool, true, false, not, ◌&&◌, inl, inr, refl, sym, ap, ◌∙◌, arith}
use Rattle.std.specs.Prelude.{nat_lt}
use Rattle.std.proofs.Math.Nat.{mul_assoc, div-div-eq-div-mul, div-mul-le_self, le-div_iff_mul-le, mul-div_cancel, mul-le-mul_right}
use Rattle.std.proofs.lemmas.Bool.{and_parts, and_from, cases_Bool, eq-eqb, le-leb}
use Rattle.std.proofs.lemmas.Bool.Decides.{eqb_tells}
use Rattle.std.proofs.lemmas.Nat.{pow-add, pow_pos}
use Rattle.fewest_core.proofs.Counts.{some_counted}
use Rattle.frame_core.proofs.Searches.{below_suc, count_some, count_from_all, count_from_most}
use Rattle.frame_core.specs.Below.{count_below, count_from, sum_below}
use Rattle.state_core.specs.HandingOut.{is_run}
use Rattle.state_core.specs.ZoneState.{ZoneState, frame_count, is_free}
use Rattle.state_core.proofs.Runs.{one_more_run}
use Rattle.zone_core.specs.FreeRuns.{all_runs, free_frames, is_in_run, is_maximal_run}

-- the first frame of the aligned run of an order that a frame lies in
abbrev first_of : ℕ → ℕ → ℕ
first_of order frame = frame / 2 ^ order * 2 ^ order

-- a frame and the first one of its run lie in the same run of the next order
same_above : (order frame : ℕ) → first_of (order + 1) (first_of order frame) ≡ first_of (order + 1) frame
same_above order frame =
    let double : 2 ^ (order + 1) ≡ 2 ^ order * 2 = pow-add 2 order 1 in
    let first = first_of order frame in
    ap (λ (n : ℕ). n * 2 ^ (order + 1))
    (ap (λ (n : ℕ). first / n) double ∙ sym (div-div-eq-div-mul first (2 ^ order) 2)
    ∙ ap (λ (n : ℕ). n / 2) (mul-div_cancel (frame / 2 ^ order) (pow_pos order))
    ∙ div-div-eq-div-mul frame (2 ^ order) 2 ∙ ap (λ (n : ℕ). frame / n) (sym double))

-- the first frame of a run lies in the pageblock of its other frames
first_above : (order frame block : ℕ) → order ≤ 9 → 512 * block ≤ frame → 512 * block ≤ first_of order frame
first_above order frame block most low =
    let up : 9 - order + order ≡ 9 = omega arith in
    let whole : 2 ^ (9 - order) * 2 ^ order ≡ 512 = sym (pow-add 2 (9 - order) order) ∙ ap (λ (n : ℕ). 2 ^ n) up in
    let parts : block * 2 ^ (9 - order) * 2 ^ order ≡ block * 512 =
    mul_assoc block (2 ^ (9 - order)) (2 ^ order) ∙ ap (λ (n : ℕ). block * n) whole in
    let under : block * 2 ^ (9 - order) * 2 ^ order ≤ frame = omega (arith, parts, low) in
    omega (arith, parts, mul-le-mul_right (2 ^ order) ((le-div_iff_mul-le (pow_pos order)).1 under))

-- where some of n numbers pass, there is one
some_from : (p : ℕ → Bool) (first n : ℕ) → 0 < count_from p first n → (k : ℕ) × (first ≤ k) × (k < first + n) × (p k ≡ true)
unfolding count_from
some_from p first n some =
    let found = some_counted (λ k. p (first + k)) n some in
    (first + found.0, omega arith, omega (arith, found.1), found.2)

count_from_some : (p : ℕ → Bool) (first n k : ℕ) → first ≤ k → k < first + n → p k ≡ true → 0 < count_from p first n
unfolding count_from
count_from_some p first n k low high passes =
    let at : first + (k - first) ≡ k = omega arith in
    count_some (λ i. p (first + i)) n (k - first) (omega arith) (ap p at ∙ passes)

module _ (f g : ℕ → ℕ) (more : (k : ℕ) → f k ≤ g k) where
  sum_within : (n : ℕ) → sum_below f n ≤ sum_below g n
  sum_within zero = omega arith
  sum_within (suc n) = omega (arith, more n, sum_within n)

  sum_grows : (n k : ℕ) → k < n → f k < g k → sum_below f n < sum_below g n
  sum_grows zero k h less = absurd (omega arith)
  sum_grows (suc n) k h less = elim (below_suc k n h) [
    | inl under ↦ omega (arith, more n, sum_grows n k under less)
    | inr at ↦ omega (arith, less, ap f at, ap g at, sum_within n)
  ]

module _ (z : ZoneState) where
  -- a maximal run that begins in a pageblock
  record BeginsIn (block : ℕ) : Type 0 where
    order : ℕ
    first : ℕ
    few : order < 10
    low : 512 * block ≤ first
    high : first < 512 * block + 512
    is : is_maximal_run z order first ≡ true

  in_run_alone : (frame : ℕ) → frame < frame_count z → is_free z frame ≡ true → is_in_run z 0 frame ≡ true
  in_run_alone frame within free =
      let at : first_of 0 frame ≡ frame = omega arith in
      let same : (k : ℕ) → frame ≤ k → k < frame + 1 → is_free z k ≡ true =
      λ k low high. (let is : k ≡ frame = omega arith in ap (is_free z) is ∙ free) in
      ap (is_run z 0) at
      ∙ and_from _ _ (and_from _ _ (eq-eqb _ _ at) (le-leb _ _ (omega arith))) (eq-eqb _ _ (count_from_all (is_free z) frame 1 same))

  -- a frame in a free run lies in one that is in no larger one
  largest : (n order frame : ℕ) → order + n ≡ 9 → is_in_run z order frame ≡ true
      → (k : ℕ) × (k ≤ 9) × (is_in_run z k frame ≡ true) × (is_in_run z (k + 1) frame ≡ false)
  largest zero order frame end lies =
      let next : order + 1 ≡ 10 = omega arith in
      (order, omega arith, lies, ap (λ (k : ℕ). is_in_run z k frame) next)
  largest (suc n) order frame end lies = elim (cases_Bool (is_in_run z (order + 1) frame)) [
    | inl larger ↦ largest n (order + 1) frame (omega arith) larger
    | inr none ↦ (order, omega arith, lies, none)
  ]

  begins : (block frame : ℕ) → block < z.blocks → 512 * block ≤ frame → frame < 512 * block + 512 → is_free z frame ≡ true → BeginsIn block
  begins block frame within low high free =
      let run = largest 9 0 frame refl (in_run_alone frame (omega arith) free) in
      let order = run.0 in
      let above : is_in_run z (order + 1) (first_of order frame) ≡ false =
      ap (λ (n : ℕ). nat_lt (order + 1) 10 && is_run z (order + 1) n) (same_above order frame) ∙ run.3 in
      record {
        order = order;
        first = first_of order frame;
        few = omega (arith, run.1);
        low = first_above order frame block run.1 low;
        high = omega (arith, div-mul-le_self frame (2 ^ order));
        is = and_from _ _ (and_parts _ _ run.2).1 (ap not above);
      }

  -- how many maximal runs of an order begin in the first pageblocks
  abbrev runs_in : ℕ → ℕ → ℕ
  runs_in blocks order = count_below (is_maximal_run z order) (512 * blocks)

  one_more_block : (p : ℕ → Bool) (block : ℕ) → count_below p (512 * suc block) ≡ count_below p (512 * block) + count_from p (512 * block) 512
  one_more_block p block = one_more_run p 512 block

  more_runs : (block order : ℕ) → runs_in block order ≤ runs_in (suc block) order
  more_runs block order = omega (arith, one_more_block (is_maximal_run z order) block)

  -- where a frame of a pageblock is free, a maximal run begins there
  runs_grow : (block : ℕ) → block < z.blocks → 0 < count_from (is_free z) (512 * block) 512
      → sum_below (runs_in block) 10 < sum_below (runs_in (suc block)) 10
  runs_grow block within some =
      let found = some_from (is_free z) (512 * block) 512 some in
      let run = begins block found.0 within found.1 found.2 found.3 in
      let new = count_from_some (is_maximal_run z run.order) (512 * block) 512 run.first run.low run.high run.is in
      sum_grows (runs_in block) (runs_in (suc block)) (more_runs block) 10 run.order run.few
      (omega (arith, new, one_more_block (is_maximal_run z run.order) block))

  free_within : (blocks : ℕ) → blocks ≤ z.blocks → count_below (is_free z) (512 * blocks) ≤ 512 * sum_below (runs_in blocks) 10
  free_within zero most = omega arith
  free_within (suc block) most =
      let before = free_within block (omega arith) in
      let here = one_more_block (is_free z) block in
      elim (eqb_tells (count_from (is_free z) (512 * block) 512) 0) [
        | inl none ↦ omega (arith, before, here, none.1, sum_within (runs_in block) (runs_in (suc block)) (more_runs block) 10)
        | inr some ↦
            (let more = runs_grow block (omega arith) (omega (arith, some.1)) in
            omega (arith, before, here, count_from_most (is_free z) (512 * block) 512, more))
      ]

  pub free_frames_few : free_frames z ≤ 512 * all_runs z
  free_frames_few = free_within z.blocks (omega arith)
