-- A round on one thread, which moves one page after the other, and why it stops.
use Rattle.std.specs.Prelude.{ℕ, zero, suc, if◌then◌else◌, is_some, nat_eq, Option, Some, None}
use Rattle.frame_core.specs.Moves.{isolated}
use Rattle.zone_core.specs.ByHand.{all_isolated}
use Rattle.state_core.specs.declared.error.ZoneError.{ZoneError}
use Rattle.state_core.specs.declared.round.Pair.{Pair}
use Rattle.state_core.specs.Ending.{committed}
use Rattle.state_core.specs.Isolating.{isolate_refusal, isolated_next}
use Rattle.state_core.specs.Pairs.{next_pair}
use Rattle.state_core.specs.ZoneState.{ZoneState}
use Rattle.zone_core.specs.declared.seats.Answered.{Answered}
use Rattle.zone_core.specs.declared.seats.Answered.TheVariants.{Page, Met, JournalFull}

-- the answer after which a scanner stops, by what the journal refuses to isolate a page as
abbrev pub last_for : Option ZoneError → Answered
last_for None = Met
last_for (Some error) = JournalFull

-- the last answer of a slice of a round: `Page` where it moved as many pages as it was to, and else why there were fewer
abbrev pub last_of_slice : ℕ → ℕ → Option ZoneError → Answered
last_of_slice moved most refusal = if nat_eq moved most then Page else last_for refusal

-- the answer after which the scanner of a round by hand stops
abbrev pub last_by_hand : ZoneState → Answered
last_by_hand z = last_for (isolate_refusal (all_isolated z))

-- the zone after the page of a pair was isolated, copied and committed
abbrev pub moved_to : ZoneState → Option Pair → Option ZoneState
moved_to z None = None
moved_to z (Some pair) = Some (committed (isolated_next z pair) (isolated z.records) pair.page)

-- the zone after the next page of the round was moved; none where its scanners have met, or no page can be isolated
abbrev pub moved_next : ZoneState → Option ZoneState
moved_next z = if is_some (isolate_refusal z) then None else moved_to z (next_pair z)

-- the zone that one goes on from, where it has moved a page, and else the one at which it stops
abbrev pub going_on : (ZoneState → ZoneState) → ZoneState → Option ZoneState → ZoneState
going_on further z None = z
going_on further z (Some next) = further next

-- the zone after one page after the other was moved, as long as there is one, and so many at most
abbrev pub moved_at_most : ℕ → ZoneState → ZoneState
moved_at_most zero z = z
moved_at_most (suc most) z = going_on (moved_at_most most) z (moved_next z)

-- the zone after one page after the other was moved, as long as there is one: each move takes places of the journal, so there
-- are at most as many moves as it has places left
abbrev pub all_moved : ZoneState → ZoneState
all_moved z = moved_at_most z.room z
