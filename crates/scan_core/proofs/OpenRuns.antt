-- Runs of frames that are free, or have a page that may be taken from them.
use Rattle.std.proofs.Common.{◌≡◌, ◌≢◌, ℕ, zero, suc, ◌+◌, ◌^◌, ◌≤◌, Bool, true, false, refl, sym, ◌∙◌, eq-eqb, arith}
use Rattle.std.specs.Prelude.{Option, Some, None, slice_get, ◌||◌, if◌then◌else◌}
use Rattle.std.proofs.lemmas.Bool.{ne_eqb}
use Rattle.number_set.specs.Runs.{count_in_run}
use Rattle.frame_core.specs.Below.{count_below, count_from, one_if}
use Rattle.frame_core.specs.declared.state.FrameState.{FrameState}
use Rattle.frame_core.specs.declared.state.FrameState.TheVariants.{Free, Holds, Huge, Source, Target}
use Rattle.frame_core.proofs.Searches.{count_from_full, count_from_most, count_from_same}
use Rattle.scan_core.specs.Frames.{Frames, free_at, holds_at, is_free_state, is_holding_state, is_open_at, is_source_state, source_at, true_at}
use Rattle.scan_core.specs.NumberSet.{all_from}
use Rattle.scan_core.proofs.Steps.{free_not_source}

-- the two words for the count of the numbers of a run
pub counts_are : (p : ℕ → Bool) (first n : ℕ) → count_in_run p first n ≡ count_from p first n
unfolding count_from
counts_are p first zero = refl
counts_are p first (suc n) = λ i. one (p (first + n)) i + counts_are p first n i where
  one : (b : Bool) → (if b then 1 else 0) ≡ one_if b
  one true = refl
  one false = refl

-- what a set of numbers tells of the count of a block's frames
pub block_counted : (p : ℕ → Bool) (number first exponent order counted : ℕ) → counted ≡ count_in_run p number (2 ^ exponent) → number ≡ first → exponent ≡ order → counted ≡ count_from p first (2 ^ order)
block_counted p number first exponent order counted is from to = is ∙ (λ i. count_in_run p (from i) (2 ^ to i)) ∙ counts_are p first (2 ^ order)

either_below : (p q : ℕ → Bool) (n : ℕ) → ((k : ℕ) → p k ≡ true → q k ≡ false) → count_below p n + count_below q n ≡ count_below (λ k. p k || q k) n
either_below p q zero apart = refl
either_below p q (suc n) apart = omega (arith, one (p n) (q n) (apart n), either_below p q n apart) where
  one : (a b : Bool) → (a ≡ true → b ≡ false) → one_if a + one_if b ≡ one_if (a || b)
  one true true clash = let no : true ≡ false = clash refl in cc
  one true false clash = refl
  one false b clash = omega arith

-- two counts of numbers that don't pass both
either_from : (p q : ℕ → Bool) (first n : ℕ) → ((k : ℕ) → p k ≡ true → q k ≡ false) → count_from p first n + count_from q first n ≡ count_from (λ k. p k || q k) first n
unfolding count_from
either_from p q first n apart = either_below (λ k. p (first + k)) (λ k. q (first + k)) n (λ k. apart (first + k))

-- the page of an open frame may be taken from it
open_holds : (state : Option (FrameState ℕ)) (movable : Bool) → (is_free_state state || is_source_state state movable) ≡ true → is_source_state state movable ≡ is_holding_state state
open_holds (Some Free) movable is = refl
open_holds (Some (Holds page)) movable is = is
open_holds (Some Huge) movable is = refl
open_holds (Some (Source serial)) movable is = refl
open_holds (Some (Target serial)) movable is = refl
open_holds None movable is = refl

-- the counts that the two sets give of a run
module _ (now : Frames) (first count free pages : ℕ) (free_is : free ≡ count_from (free_at now.states) first count) (pages_are : pages ≡ count_from (source_at now.states now.movable) first count) where
  open_counted : free + pages ≡ count_from (is_open_at now) first count
  open_counted =
      (λ i. free_is i + pages_are i)
      ∙ either_from (free_at now.states) (source_at now.states now.movable) first count (λ n. free_not_source (slice_get now.states n) (true_at now.movable n))

  -- together they aren't greater than the run
  pub counts_fit : free + pages ≤ count
  counts_fit = omega (arith, open_counted, count_from_most (is_open_at now) first count)

  pub all_open : free + pages ≡ count → true ≡ all_from (is_open_at now) first count
  all_open all = sym (eq-eqb (count_from (is_open_at now) first count) count (sym open_counted ∙ all))

  pub not_all_open : free + pages ≢ count → false ≡ all_from (is_open_at now) first count
  not_all_open some = sym (ne_eqb (count_from (is_open_at now) first count) count (λ all. some (open_counted ∙ all)))

  pub pages_held : free + pages ≡ count → pages ≡ count_from (holds_at now.states) first count
  pages_held all =
      pages_are
      ∙ count_from_same (source_at now.states now.movable) (holds_at now.states) first count (λ k low high. open_holds (slice_get now.states k) (true_at now.movable k) (count_from_full (is_open_at now) first count k (sym open_counted ∙ all) low high))
