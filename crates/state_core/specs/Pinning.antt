-- The calls that pin a page and take a pin off: when they are refused, and what they leave. They may name a page also while it is moving.
use Rattle.std.specs.Prelude.{ℕ, Bool, not, ◌&&◌, nat_eq, nat_le, if◌then◌else◌, Option, Some, None, is_none, is_some, unwrap_or}
use Rattle.frame_core.specs.declared.place.Address.{Address}
use Rattle.frame_core.specs.declared.record.Record.TheVariants.{Pin, Unpin}
use Rattle.frame_core.specs.History.{page_at, pins}
use Rattle.state_core.specs.declared.error.ZoneError.{ZoneError}
use Rattle.state_core.specs.declared.error.ZoneError.TheVariants.{JournalFull, Unmapped, PinFull, NotPinned, Lent}
use Rattle.state_core.specs.Access.{is_page_lent}
use Rattle.state_core.specs.Packed.{frame_of}
use Rattle.state_core.specs.ZoneState.{ZoneState, has_room, noted, placement_at}

-- how many pins the page has that an address names
abbrev pub pins_at : ZoneState → Address → ℕ
pins_at z address = pins z.records (unwrap_or (page_at z.records address) 0)

-- why a pin is refused, if it is: a page has 255 pins at most
abbrev pub pin_refusal : ZoneState → Address → Option ZoneError
pin_refusal z address =
    if not (has_room z) then Some JournalFull
    else if is_none (page_at z.records address) then Some Unmapped
    else if nat_le 255 (pins_at z address) then Some PinFull
    else None

-- whether the page that an address names rests in a frame, and its words are lent
abbrev pub rests_lent : ZoneState → Address → Bool
rests_lent z address = is_some (frame_of (placement_at z address)) && is_page_lent z address

-- why taking a pin off is refused, if it is: a page that rests in a frame and whose words are lent keeps one
abbrev pub unpin_refusal : ZoneState → Address → Option ZoneError
unpin_refusal z address =
    if not (has_room z) then Some JournalFull
    else if is_none (page_at z.records address) then Some Unmapped
    else if nat_eq (pins_at z address) 0 then Some NotPinned
    else if nat_eq (pins_at z address) 1 && rests_lent z address then Some Lent
    else None

-- the zone after the page of an address was pinned once more, which the journal tells
abbrev pub pinned : ZoneState → ℕ → Address → ZoneState
pinned z client address = noted z (Pin client address)

-- the zone after a pin of the page of an address was taken off
abbrev pub unpinned : ZoneState → ℕ → Address → ZoneState
unpinned z client address = noted z (Unpin client address)
