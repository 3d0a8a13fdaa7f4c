-- The calls that mark a pageblock, so that the scanners pass over it, and that take the mark off: when they are refused, and what they
-- leave.
use Rattle.std.specs.Prelude.{ℕ, Bool, not, nat_lt, if◌then◌else◌, Option, Some, None}
use Rattle.std.specs.FinSet as set
use Rattle.frame_core.specs.declared.record.Record.TheVariants.{Mark, Unmark}
use Rattle.state_core.specs.declared.error.ZoneError.{ZoneError}
use Rattle.state_core.specs.declared.error.ZoneError.TheVariants.{Range, JournalFull, Marked, NotMarked}
use Rattle.state_core.specs.ZoneState.{ZoneState, has_room, noted}

-- why marking a pageblock is refused, if it is
abbrev pub mark_refusal : ZoneState → ℕ → Option ZoneError
mark_refusal z block =
    if not (nat_lt block z.blocks) then Some Range
    else if not (has_room z) then Some JournalFull
    else if set.contains z.marked block then Some Marked
    else None

-- why taking the mark of a pageblock off is refused, if it is
abbrev pub unmark_refusal : ZoneState → ℕ → Option ZoneError
unmark_refusal z block =
    if not (nat_lt block z.blocks) then Some Range
    else if not (has_room z) then Some JournalFull
    else if not (set.contains z.marked block) then Some NotMarked
    else None

-- the zone after the pageblock was marked
abbrev pub block_marked : ZoneState → ℕ → ZoneState
block_marked z block = record (noted z (Mark block)) { marked = set.insert z.marked block }

-- the zone after the mark of the pageblock was taken off
abbrev pub block_unmarked : ZoneState → ℕ → ZoneState
block_unmarked z block = record (noted z (Unmark block)) { marked = set.remove z.marked block }

-- whether a pageblock is marked, or none where the zone has no such pageblock
abbrev pub marked_of : ZoneState → ℕ → Option Bool
marked_of z block = if nat_lt block z.blocks then Some (set.contains z.marked block) else None
