-- What is under the lock of a shared pool, and what a step and a waking leave of it.
use Rattle.std.specs.Prelude.{ℕ, ◌-◌, ◌+◌, ◌*◌, ◌^◌, ◌≤◌, Bool, true, false, min, if◌then◌else◌, Result, Ok, Err}
use Rattle.keeper_core.specs.Keeping.{Keeper}
use Rattle.keeper_core.specs.declared.keeper.Step.{Step}
use Rattle.keeper_core.specs.declared.keeper.Step.TheVariants.{Emptied, Claimed, Rested}
use Rattle.keeper_thread.specs.declared.work.Work.{Work}
use Rattle.state_core.specs.ZoneState.{ZoneState}
use Rattle.state_core.specs.declared.error.ZoneError.{ZoneError}

-- a zone with its keeper, under one lock
pub record Room : Type 0 where
  pub zone : ZoneState
  -- it has blocks of that zone ready
  pub keeper : Keeper
  -- what its thread did so far
  pub work : Work
  -- whether there may be something for it to do
  pub is_awake : Bool
  -- whether its thread was told to end
  pub is_stopping : Bool

-- a count and more, but never above the largest number of 64 bits
abbrev pub plus : ℕ → ℕ → ℕ
plus count more = min (count + more) (2 ^ 64 - 1)

-- what was done, with one step more, which came to this
abbrev pub worked : Work → Result Step ZoneError → Work
worked w (Ok (Emptied first pages)) = record w { steps = plus w.steps 1; pages = plus w.pages pages }
worked w (Ok (Claimed first pages)) = record w { steps = plus w.steps 1; claimed = plus w.claimed 1 }
worked w (Ok Rested) = record w { steps = plus w.steps 1; rests = plus w.rests 1 }
worked w (Err error) = record w { steps = plus w.steps 1; refused = plus w.refused 1 }

-- whether a keeper goes on after a step that came to this: it did something
abbrev pub goes_on : Result Step ZoneError → Bool
goes_on (Ok (Emptied first pages)) = true
goes_on (Ok (Claimed first pages)) = true
goes_on (Ok Rested) = false
goes_on (Err error) = false

-- a keeper that slept is awake, and this is counted
abbrev pub woken : Room → Room
woken r = record r { is_awake = true; work = if r.is_awake then r.work else record r.work { wakes = plus r.work.wakes 1 } }

-- the thread moved at most so many pages with each of its steps
abbrev pub IsWithin : ℕ → Work → Type 0
IsWithin most w = w.pages ≤ most * w.steps
