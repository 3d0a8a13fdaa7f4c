-- Runs with enough free frames, each by its number among the runs of its order.
use Rattle.std.specs.Prelude.{ℕ, ◌*◌, ◌^◌, ◌<◌, ◌≤◌, Bool, Option, MatchOption}
use Rattle.frame_core.specs.Below.{count_from}

-- how many frames of a run are free: run n of an order has the frames from 2 ^ order * n on
abbrev pub free_in_run : (ℕ → Bool) → ℕ → ℕ → ℕ
free_in_run is_free order run = count_from is_free (2 ^ order * run) (2 ^ order)

-- of so many runs, the lowest from one on that has at least so many free frames
pub record IsLowestWith (free : ℕ → ℕ) (runs from least run : ℕ) : Type 0 where
  pub above : from ≤ run
  pub within : run < runs
  pub enough : least ≤ free run
  pub fewer : (k : ℕ) → from ≤ k → k < run → free k < least

-- the same, or that each of them from that one on has fewer
abbrev pub IsNextWith : (ℕ → ℕ) → (runs from least : ℕ) → Option ℕ → Type 0
IsNextWith free runs from least found = MatchOption found ((k : ℕ) → from ≤ k → k < runs → free k < least) (IsLowestWith free runs from least)
