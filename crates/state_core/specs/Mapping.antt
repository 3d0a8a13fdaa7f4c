-- The calls that make an address name a fresh page: when they are refused, and what they leave.
use Rattle.std.specs.Prelude.{ℕ, not, ◌&&◌, nat_lt, if◌then◌else◌, Option, Some, None, is_none, is_some, Bool, unwrap_or}
use Rattle.frame_core.specs.declared.place.Address.{Address}
use Rattle.frame_core.specs.History.{page_at}
use Rattle.state_core.specs.declared.placement.Placement.TheVariants.{At}
use Rattle.state_core.specs.declared.error.ZoneError.{ZoneError}
use Rattle.state_core.specs.declared.error.ZoneError.TheVariants.{Range, JournalFull, Occupied, NoFrame}
use Rattle.state_core.specs.ZoneState.{ZoneState, frame_count, has_address, has_room, is_free, lowest_free_frame, lowest_unused_page, noted}
use Rattle.std.specs.FinMap as map
use Rattle.std.specs.FinSet as set
use Rattle.frame_core.specs.declared.record.Record.TheVariants.{Map}

-- why a map at a frame that the zone chooses is refused, if it is
abbrev pub map_refusal : ZoneState → Address → Option ZoneError
map_refusal z address =
    if not (has_address z address) then Some Range
    else if not (has_room z) then Some JournalFull
    else if is_some (page_at z.records address) then Some Occupied
    else if is_none (lowest_free_frame z) then Some NoFrame
    else None

-- why a map at a given frame is refused, if it is
abbrev pub map_at_refusal : ZoneState → Address → ℕ → Option ZoneError
map_at_refusal z address frame =
    if not (has_address z address && nat_lt frame (frame_count z)) then Some Range
    else if not (has_room z) then Some JournalFull
    else if is_some (page_at z.records address) then Some Occupied
    else if not (is_free z frame) then Some NoFrame
    else None

-- the zone after the address was made to name a fresh page with this number, in this frame
abbrev pub placed : ZoneState → ℕ → Address → Bool → ℕ → ℕ → ZoneState
placed z client address unmovable page frame =
    let next = noted z (Map client address page) in
    record next { placement = map.insert z.placement page (At frame); unmovable = if unmovable then set.insert z.unmovable page else z.unmovable }

-- the zone after an accepted map or map_at: the fresh page has the lowest number that isn't in use
abbrev pub mapped : ZoneState → ℕ → Address → Bool → ℕ → ZoneState
mapped z client address unmovable frame = placed z client address unmovable (unwrap_or (lowest_unused_page z) 0) frame
