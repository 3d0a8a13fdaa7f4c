-- Runs with enough free frames, as counts and sets of whole runs tell them.
use Rattle.std.proofs.Common.{◌≡◌, ℕ, ◌+◌, ◌*◌, ◌/◌, ◌^◌, ◌<◌, ◌≤◌, Bool, length, true, false, inl, inr, sym, ap, ◌∙◌, arith}
use Rattle.std.specs.Prelude.{Option, Some, None}
use Rattle.std.proofs.lemmas.Bool.{both_ways, eq-eqb, eqb-true, ne_eqb}
use Rattle.std.proofs.lemmas.Bool.Decides.{leb_tells}
use Rattle.frame_core.specs.Below.{count_from}
use Rattle.frame_core.proofs.Searches.{count_from_most}
use Rattle.number_set.specs.Runs.{count_in_run}
use Rattle.scan_core.specs.FrameSet.{FrameNumbers}
use Rattle.scan_core.specs.FrameSetInside.{frames_in}
use Rattle.scan_core.specs.declared.frame_set.FrameSet.TheInside.{Inside}
use Rattle.scan_core.specs.FreeRuns.{free_in_run, IsLowestWith, IsNextWith}
use Rattle.scan_core.specs.NumberSet.{all_from}
use Rattle.scan_core.proofs.OpenRuns.{block_counted}

-- the same by another count
pub next_same : (f g : ℕ → ℕ) (runs from least : ℕ) → ((k : ℕ) → k < runs → f k ≡ g k) → (found : Option ℕ) → IsNextWith f runs from least found → IsNextWith g runs from least found
next_same f g runs from least same None is = λ k low high. omega (arith, is k low high, same k high)
next_same f g runs from least same (Some run) is = record {
  above = is.above;
  within = is.within;
  enough = omega (arith, is.enough, same run is.within);
  fewer = λ k low high. omega (arith, is.fewer k low high, same k (omega (arith, high, is.within)));
}

swapped : (a b : ℕ) → a * b ≡ b * a
swapped a b = omega arith

-- whether all frames of a run are free
module _ (p : ℕ → Bool) (order : ℕ) where
  free_is : (run : ℕ) → free_in_run p order run ≡ count_from p (run * 2 ^ order) (2 ^ order)
  free_is run = ap (λ (first : ℕ). count_from p first (2 ^ order)) (swapped (2 ^ order) run)

  pub all_free : (run : ℕ) → all_from p (run * 2 ^ order) (2 ^ order) ≡ true → 2 ^ order ≤ free_in_run p order run
  all_free run all = omega (arith, free_is run, eqb-true (count_from p (run * 2 ^ order) (2 ^ order)) (2 ^ order) all)

  pub some_taken : (run : ℕ) → all_from p (run * 2 ^ order) (2 ^ order) ≡ false → free_in_run p order run < 2 ^ order
  some_taken run few =
      let most = count_from_most p (run * 2 ^ order) (2 ^ order) in
      elim (leb_tells (2 ^ order) (free_in_run p order run)) [
        | inl full ↦ absurd (both_ways _ few (eq-eqb _ _ (omega (arith, full.1, most, free_is run))))
        | inr fewer ↦ fewer.1
      ]

  pub all_by : (run : ℕ) → 2 ^ order ≤ free_in_run p order run → all_from p (run * 2 ^ order) (2 ^ order) ≡ true
  all_by run full = eq-eqb _ _ (omega (arith, full, free_is run, count_from_most p (run * 2 ^ order) (2 ^ order)))

  pub not_all : (run : ℕ) → free_in_run p order run < 2 ^ order → all_from p (run * 2 ^ order) (2 ^ order) ≡ false
  not_all run few = ne_eqb _ _ (λ e. omega (arith, e, few, free_is run))

  -- by a set in which the runs of the order stand together, after as many other numbers
  module _ (runs : ℕ) (c : ℕ → Bool) (has : (run : ℕ) → run < runs → c (runs + run) ≡ all_from p (run * 2 ^ order) (2 ^ order)) where
    pub none_whole : (from end : ℕ) → runs + runs ≤ end → ((k : ℕ) → runs + from ≤ k → k < end → c k ≡ false) → (k : ℕ) → from ≤ k → k < runs → free_in_run p order k < 2 ^ order
    none_whole from end past none k low high = some_taken k (sym (has k high) ∙ none (runs + k) (omega (arith, low)) (omega (arith, high, past)))

    pub first_whole : (from run number : ℕ) → number ≡ runs + run → runs + from ≤ number → run < runs → c number ≡ true → ((k : ℕ) → runs + from ≤ k → k < number → c k ≡ false) → IsLowestWith (free_in_run p order) runs from (2 ^ order) run
    first_whole from run number at low within member none = record {
      above = omega (arith, at, low);
      within = within;
      enough = all_free run (sym (has run within) ∙ ap c (sym at) ∙ member);
      fewer = λ k least below. some_taken k (sym (has k (omega (arith, below, within))) ∙ none (runs + k) (omega (arith, least)) (omega (arith, below, at)));
    }

-- how many runs there are, by the pageblocks of a set
pub runs_told : (s : Inside) (now : FrameNumbers) → frames_in s ≡ now → (order frames : ℕ) → frames ≡ 2 ^ order → (blocks : ℕ) → blocks ≡ length s.blocks → 512 * blocks / frames ≡ now.bound / 2 ^ order
runs_told s now view order frames is blocks are = (λ i. 512 * are i / is i) ∙ ap (λ (u : FrameNumbers). u.bound / 2 ^ order) view

-- where a run begins, and how many of its frames are free, as a set of numbers tells it
module _ (p : ℕ → Bool) (order run frames : ℕ) (is : frames ≡ 2 ^ order) where
  pub run_start : frames * run ≡ run * 2 ^ order
  run_start = ap (λ (k : ℕ). k * run) is ∙ swapped (2 ^ order) run

  pub run_counted : (exponent : ℕ) → exponent ≡ order → (counted : ℕ) → counted ≡ count_in_run p (frames * run) (2 ^ exponent) → counted ≡ free_in_run p order run
  run_counted exponent same counted told = block_counted p (frames * run) (2 ^ order * run) exponent order counted told (ap (λ (k : ℕ). k * run) is) same
