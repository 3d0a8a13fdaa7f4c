-- The call that makes an address name no page any more: when it is refused, and what it leaves.
use Rattle.std.specs.Prelude.{ℕ, Bool, not, ◌&&◌, nat_eq, if◌then◌else◌, Option, Some, None, unwrap_or}
use Rattle.std.specs.FinMap as map
use Rattle.std.specs.FinSet as set
use Rattle.std.specs.Option.{option_or}
use Rattle.frame_core.specs.declared.place.Address.{Address}
use Rattle.frame_core.specs.declared.record.Record.TheVariants.{Unmap}
use Rattle.frame_core.specs.History.{page_at}
use Rattle.state_core.specs.declared.error.ZoneError.{ZoneError}
use Rattle.state_core.specs.declared.error.ZoneError.TheVariants.{JournalFull, Pinned}
use Rattle.state_core.specs.Access.{placement_refusal}
use Rattle.state_core.specs.Pinning.{pins_at}
use Rattle.state_core.specs.Sharing.{maps_at}
use Rattle.state_core.specs.ZoneState.{ZoneState, has_room, placement_at, noted}

-- whether no other address names the page that an address names
abbrev pub is_last : ZoneState → Address → Bool
is_last z address = nat_eq (maps_at z address) 1

-- why the last address of a page can't be unmapped: the page has a pin
abbrev pub last_refusal : ZoneState → Address → Option ZoneError
last_refusal z address = if is_last z address && not (nat_eq (pins_at z address) 0) then Some Pinned else None

-- why an unmap is refused, if it is
abbrev pub unmap_refusal : ZoneState → Address → Option ZoneError
unmap_refusal z address =
    if not (has_room z) then Some JournalFull
    else option_or (placement_refusal (placement_at z address)) (last_refusal z address)

-- the zone without a page: the page's number and its frame may be used again
abbrev pub without_page : ZoneState → ℕ → ZoneState
without_page z page = record z { placement = map.remove z.placement page; unmovable = set.remove z.unmovable page }

-- the zone after an unmap: the address names no page, and a page that has no address left isn't in use
abbrev pub unmapped : ZoneState → ℕ → Address → ZoneState
unmapped z client address =
    let next = noted z (Unmap client address) in
    if is_last z address then without_page next (unwrap_or (page_at z.records address) 0) else next
