-- The walk over the open runs of a zone, in the order of their ranks.
use Rattle.std.specs.Prelude.{◌≡◌, ℕ, ◌+◌, ◌-◌, ◌<◌, ◌≤◌, Bool, true, false, nat_eq, nat_lt, ◌&&◌, ◌||◌, min, Option, Some, None}
use Rattle.fewest_core.specs.FewestMoves.{cost, is_open, run_count}
use Rattle.fewest_core.specs.Reservation.{rank}
use Rattle.state_core.specs.ZoneState.{ZoneState}
use Rattle.zone_core.specs.declared.bare.reserving.OpenRun.{OpenRun}

-- an open run of a zone, and how many pages it has
pub record IsOpenRun (z : ZoneState) (size : ℕ) (run : OpenRun) : Type 0 where
  pub within : run.number < run_count z size
  pub opened : is_open z size run.number ≡ true
  pub pages : run.pages ≡ cost z size run.number

-- the rank that comes after that of a run; the first one is 0
abbrev pub next_rank : ZoneState → ℕ → Option OpenRun → ℕ
next_rank z size None = 0
next_rank z size (Some run) = rank z size run.number + 1

-- whether, by its pages, a run goes before another
abbrev pub is_before : OpenRun → OpenRun → Bool
is_before run other = nat_lt run.pages other.pages || (nat_eq run.pages other.pages && nat_lt run.number other.number)

-- whether it goes after a run, if there is one
abbrev pub is_after : OpenRun → Option OpenRun → Bool
is_after run None = true
is_after run (Some last) = is_before last run

-- how many frames of an open run are free at least, if it has fewer pages than a run, if there is one
abbrev pub least_free : ℕ → Option OpenRun → ℕ
least_free size None = 0
least_free size (Some next) = size - next.pages + 1

-- whether it has as few pages as a run, or none where there is no such run
abbrev pub is_level : OpenRun → Option OpenRun → Bool
is_level run None = nat_eq run.pages 0
is_level run (Some last) = nat_eq run.pages last.pages

-- the lowest frame from one on that passes
pub record IsNextIn (is_in : ℕ → Bool) (from frame : ℕ) : Type 0 where
  pub passes : is_in frame ≡ true
  pub least : from ≤ frame
  pub between : (k : ℕ) → from ≤ k → k < frame → is_in k ≡ false

-- the same, or that there is none
abbrev pub IsNext : (ℕ → Bool) → ℕ → Option ℕ → Type 0
IsNext is_in from None = (k : ℕ) → from ≤ k → is_in k ≡ false
IsNext is_in from (Some frame) = IsNextIn is_in from frame

-- the lower of two frames, of which each may be none
abbrev pub lower : Option ℕ → Option ℕ → Option ℕ
lower None other = other
lower (Some one) None = Some one
lower (Some one) (Some other) = Some (min one other)
