-- The call that makes a second address name a page: when it is refused, and what it leaves.
use Rattle.std.specs.Prelude.{ℕ, not, nat_le, if◌then◌else◌, Option, Some, None, is_some, unwrap_or}
use Rattle.std.specs.Option.{option_or}
use Rattle.frame_core.specs.declared.place.Address.{Address}
use Rattle.frame_core.specs.declared.record.Record.TheVariants.{Share}
use Rattle.frame_core.specs.History.{page_at, maps}
use Rattle.state_core.specs.declared.error.ZoneError.{ZoneError}
use Rattle.state_core.specs.declared.error.ZoneError.TheVariants.{Range, JournalFull, Occupied, ShareFull}
use Rattle.state_core.specs.Access.{placement_refusal}
use Rattle.state_core.specs.ZoneState.{ZoneState, has_address, has_room, placement_at, noted}

-- how many addresses name the page that an address names
abbrev pub maps_at : ZoneState → Address → ℕ
maps_at z address = maps z.records (unwrap_or (page_at z.records address) 0)

-- why the alias can't name the page of the address: it names a page already, or the page has four addresses
abbrev pub alias_refusal : ZoneState → Address → Address → Option ZoneError
alias_refusal z address alias =
    if is_some (page_at z.records alias) then Some Occupied
    else if nat_le 4 (maps_at z address) then Some ShareFull
    else None

-- why a share is refused, if it is
abbrev pub share_refusal : ZoneState → Address → Address → Option ZoneError
share_refusal z address alias =
    if not (has_address z alias) then Some Range
    else if not (has_room z) then Some JournalFull
    else option_or (placement_refusal (placement_at z address)) (alias_refusal z address alias)

-- the zone after a share: the alias names the page of the address too
abbrev pub shared : ZoneState → ℕ → Address → Address → ZoneState
shared z client address alias = noted z (Share client address alias)
