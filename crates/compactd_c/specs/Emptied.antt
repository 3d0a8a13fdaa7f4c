-- What calls leave that move pages out of runs.
use Rattle.std.specs.Prelude.{◌≡◌, ℕ, ◌+◌, ◌<◌, ◌≤◌, ◌^◌, true, false, List, length, slice_index, Some}
use Rattle.std.specs.FinMap as map
use Rattle.fewest_core.specs.Claims.{claimed_frames}
use Rattle.fewest_core.specs.Evacuation.{is_in_run, IsCarriedFrom, IsCarriedOut}
use Rattle.fewest_core.specs.FewestMoves.{least}
use Rattle.fewest_core.specs.Reservation.{is_in_runs, reserved, ArePicked}
use Rattle.frame_core.specs.Moves.{moved as pages_moved}
use Rattle.state_core.specs.Claiming.{is_claimed}
use Rattle.state_core.specs.ZoneState.{ZoneState, is_free}
use Rattle.compactd_c.specs.declared.zone.Step.{Step}

-- a step moved at most so many pages out of a run: no frame of it is free then, what was claimed stays so, and the pages are as they were,
-- but for the frames of those that went
pub record IsEmptied (first order most : ℕ) (old new : ZoneState) (step : Step) : Type 0 where
  pub moved : pages_moved new.records ≡ pages_moved old.records + step.moved
  pub limit : step.moved ≤ most
  pub unclaimed : claimed_frames first (2 ^ order) new + step.unclaimed ≡ 2 ^ order
  pub shut : (frame : ℕ) → is_in_run first (2 ^ order) frame ≡ true → is_free new frame ≡ false
  pub claims : (frame : ℕ) → is_claimed old frame ≡ true → is_claimed new frame ≡ true
  pub carried : IsCarriedOut first (2 ^ order) old new

-- blocks with these first frames were handed out, and so many pages moved for it: no list of moves that makes so many runs free is shorter,
-- and the pages are as they were, but for the frames of those that went
pub record IsReserved (order : ℕ) (firsts : List ℕ) (old new : ZoneState) (pages : ℕ) : Type 0 where
  pub picked : ArePicked old order firsts
  pub zone : new ≡ reserved old order firsts
  pub fewest : pages ≡ least (length firsts) old (2 ^ order)
  pub moved : pages_moved new.records ≡ pages_moved old.records + pages
  pub taken : (place : ℕ) → place < length firsts → map.get new.handed_out (slice_index firsts place) ≡ Some order
  pub carried : IsCarriedFrom (is_in_runs firsts (2 ^ order)) old new
