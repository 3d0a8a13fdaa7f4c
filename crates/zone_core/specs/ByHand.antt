-- A round by hand, as one thread makes it: the scanner isolates pages until it stops, and then each page that is moving is moved.
use Rattle.std.specs.Prelude.{ℕ, zero, suc, if◌then◌else◌, Option, Some, None, is_none}
use Rattle.std.specs.FinMap as map
use Rattle.state_core.specs.declared.placement.Placement.{Placement}
use Rattle.state_core.specs.declared.placement.Placement.TheVariants.{At, Moving}
use Rattle.state_core.specs.declared.round.Pair.{Pair}
use Rattle.state_core.specs.Ending.{moved_to_target}
use Rattle.state_core.specs.Isolating.{isolate_refusal, next_state}
use Rattle.state_core.specs.Pairs.{next_pair}
use Rattle.state_core.specs.Rounds.{round_begun}
use Rattle.state_core.specs.ZoneState.{ZoneState, frame_count}

-- the pair that the scanner takes next: none where the isolation is refused, or where the scanners met
abbrev pub scan_pair : ZoneState → Option Pair
scan_pair z = if is_none (isolate_refusal z) then next_pair z else None

-- one step of the scanner: it isolates the page of that pair, if there is one
abbrev pub scan_step : ZoneState → ZoneState
scan_step z = next_state z (scan_pair z)

-- so many steps
abbrev pub scan_steps : ℕ → ZoneState → ZoneState
scan_steps zero z = z
scan_steps (suc n) z = scan_steps n (scan_step z)

-- the zone where the scanner stops that goes on from here: a step for each frame is enough
abbrev pub scanned_out : ZoneState → ZoneState
scanned_out z = scan_steps (frame_count z) z

-- the zone where the scanner of a new round stops
abbrev pub all_isolated : ZoneState → ZoneState
all_isolated z = scanned_out (round_begun z)

-- a page that is placed so is moved, if it is moving
abbrev pub moved_if_moving : Option Placement → ZoneState → ℕ → ZoneState
moved_if_moving None z page = z
moved_if_moving (Some (At frame)) z page = z
moved_if_moving (Some (Moving serial source target)) z page = moved_to_target z serial page

-- each page below a number is moved, if it is moving
abbrev pub moved_below : ℕ → ZoneState → ZoneState
moved_below zero z = z
moved_below (suc n) z = moved_below n (moved_if_moving (map.get z.placement n) z n)

-- the zone after a round by hand; the numbers of pages are below the number of frames
abbrev pub by_hand : ZoneState → ZoneState
by_hand z = moved_below (frame_count z) (all_isolated z)
