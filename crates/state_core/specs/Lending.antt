-- The calls that lend the words of a block that is handed out, or of a page that is pinned, as a row, and take them back: where the
-- words lie, when the calls are refused, and what they leave. No record is written of these calls but for the stores of a page's words.
use Rattle.std.specs.Prelude.{◌≡◌, ℕ, ◌*◌, List, not, nat_eq, if◌then◌else◌, Option, Some, None, is_none, unwrap_or}
use Rattle.std.specs.Option.{option_map, option_and_then, option_or}
use denote.RawPtr.{Ptr, ◌+ₚ◌}
use Rattle.std.specs.FinMap as map
use Rattle.std.specs.FinSet as set
use Rattle.frame_core.specs.History.{page_at}
use Rattle.frame_core.specs.declared.place.Address.{Address}
use Rattle.state_core.specs.declared.error.ZoneError.{ZoneError}
use Rattle.state_core.specs.declared.error.ZoneError.TheVariants.{JournalFull, NotPinned, NotHuge, Lent, OwnMemory}
use Rattle.state_core.specs.Access.{is_page_lent, placement_refusal}
use Rattle.state_core.specs.Bulk.{has_room_for, stored_all}
use Rattle.state_core.specs.HandingOut.{is_order}
use Rattle.state_core.specs.Packed.{frame_of}
use Rattle.state_core.specs.Pinning.{pins_at}
use Rattle.state_core.specs.ZoneState.{ZoneState, placement_at}

-- where the words from this frame on begin, if the zone lies in memory of its caller
abbrev pub block_place : ZoneState → ℕ → Option Ptr
block_place z first = option_map (λ at. at +ₚ first * z.page_size * 8) z.memory

-- why lending the words of a block of this order from this first frame on is refused, if it is: no such block is handed out, its words
-- are lent, or the zone lies in memory of its own
abbrev pub lend_refusal : ZoneState → ℕ → ℕ → Option ZoneError
lend_refusal z first order =
    if not (is_order (map.get z.handed_out first) order) then Some NotHuge
    else if set.contains z.lent first then Some Lent
    else if is_none z.memory then Some OwnMemory
    else None

-- why taking them back is refused, if it is; whoever has the row of a block knows that its words are lent
abbrev pub return_refusal : ZoneState → ℕ → ℕ → Option ZoneError
return_refusal z first order = if not (is_order (map.get z.handed_out first) order) then Some NotHuge else None

-- the zone after the words of the block were lent
abbrev pub block_lent : ZoneState → ℕ → ZoneState
block_lent z first = record z { lent = set.insert z.lent first }

-- the zone after these words of the block came back
abbrev pub block_returned : ZoneState → ℕ → List ℕ → ZoneState
block_returned z first words = record z { lent = set.remove z.lent first; contents = map.insert z.contents first words }

-- where the words of the page of an address begin, if it rests in a frame of a zone in memory of its caller
abbrev pub page_place : ZoneState → Address → Option Ptr
page_place z address = option_and_then (block_place z) (frame_of (placement_at z address))

-- why lending the words of the page of an address is refused, if it is: it is nowhere, or moving, or has no pin, its words are lent, or the
-- zone lies in memory of its own
abbrev pub lend_page_refusal : ZoneState → Address → Option ZoneError
lend_page_refusal z address = option_or (placement_refusal (placement_at z address)) (
    if nat_eq (pins_at z address) 0 then Some NotPinned
    else if is_page_lent z address then Some Lent
    else if is_none z.memory then Some OwnMemory
    else None)

-- why taking them back is refused, if it is: the journal has no place for a store of each word, or the page is nowhere, or moving; whoever
-- has the row of a page knows that its words are lent
abbrev pub page_return_refusal : ZoneState → Address → Option ZoneError
page_return_refusal z address = if not (has_room_for z z.page_size) then Some JournalFull else placement_refusal (placement_at z address)

-- the zone after the words of the page of an address were lent
abbrev pub page_lent : ZoneState → Address → ZoneState
page_lent z address = record z { lent_pages = set.insert z.lent_pages (unwrap_or (page_at z.records address) 0) }

-- the zone with the words of the page of an address no longer lent
abbrev pub page_back : ZoneState → Address → ZoneState
page_back z address = record z { lent_pages = set.remove z.lent_pages (unwrap_or (page_at z.records address) 0) }

-- the zone after these words of the page came back: it has them as if the client who gives them back had stored each of them
abbrev pub page_returned : ZoneState → ℕ → Address → List ℕ → ZoneState
page_returned z client address words = stored_all (page_back z address) client address 0 words

-- no words of the zone are lent
abbrev pub LendsNone : ZoneState → Type 0
LendsNone z = (z.lent ≡ set.empty) × (z.lent_pages ≡ set.empty)
