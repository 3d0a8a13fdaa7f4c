-- A load and a store: when they are refused, what a load answers, and what they leave.
use Rattle.std.specs.Prelude.{ℕ, Bool, not, if◌then◌else◌, Option, Some, None, unwrap_or}
use Rattle.std.specs.FinSet as set
use Rattle.std.specs.Option.{option_or}
use Rattle.frame_core.specs.declared.place.Address.{Address}
use Rattle.frame_core.specs.History.{page_at, last}
use Rattle.state_core.specs.declared.placement.Placement.{Placement}
use Rattle.state_core.specs.declared.placement.Placement.TheVariants.{At, Moving as IsolatedPage}
use Rattle.state_core.specs.declared.error.ZoneError.{ZoneError}
use Rattle.state_core.specs.declared.error.ZoneError.TheVariants.{JournalFull, Unmapped, Moving, Lent}
use Rattle.state_core.specs.ZoneState.{ZoneState, has_room, placement_at, noted}
use Rattle.frame_core.specs.declared.record.Record.TheVariants.{Store, Load}

-- why a page with this placement can't be worked on: it is nowhere, or moving
abbrev pub placement_refusal : Option Placement → Option ZoneError
placement_refusal None = Some Unmapped
placement_refusal (Some (At frame)) = None
placement_refusal (Some (IsolatedPage serial source target)) = Some Moving

-- whether the words of the page that an address names are lent
abbrev pub is_page_lent : ZoneState → Address → Bool
is_page_lent z address = set.contains z.lent_pages (unwrap_or (page_at z.records address) 0)

-- why the page of an address can't be read or written, if it can't: it is nowhere, or moving, or its words are lent
abbrev pub words_refusal : ZoneState → Address → Option ZoneError
words_refusal z address = option_or (placement_refusal (placement_at z address)) (if is_page_lent z address then Some Lent else None)

-- why a load or a store at an address is refused, if it is
abbrev pub access_refusal : ZoneState → Address → Option ZoneError
access_refusal z address = if not (has_room z) then Some JournalFull else words_refusal z address

-- the last value of a word of the page that an address names
abbrev pub value_at : ZoneState → Address → ℕ → ℕ
value_at z address word = last z.records (unwrap_or (page_at z.records address) 0) word

-- the zone after an accepted load, which is recorded with its value
abbrev pub loaded : ZoneState → ℕ → Address → ℕ → ZoneState
loaded z client address word = noted z (Load client address word (value_at z address word))

-- the zone after an accepted store, which is recorded with its value
abbrev pub stored : ZoneState → ℕ → Address → ℕ → ℕ → ZoneState
stored z client address word value = noted z (Store client address word value)
