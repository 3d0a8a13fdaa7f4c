-- The call that isolates the next page of a round: when it is refused, its answer, and what it leaves.
use Rattle.std.specs.Prelude.{◌≡◌, ◌≢◌, ℕ, ◌+◌, Bool, length, nat_lt, if◌then◌else◌, Option, Some, None}
use Rattle.std.specs.FinMap as map
use Rattle.frame_core.specs.declared.place.Address.{Address}
use Rattle.frame_core.specs.declared.record.Record.TheVariants.{Isolate}
use Rattle.frame_core.specs.History.{page_at}
use Rattle.frame_core.specs.Moves.{isolated, out}
use Rattle.state_core.specs.declared.error.ZoneError.{ZoneError}
use Rattle.state_core.specs.declared.error.ZoneError.TheVariants.{JournalFull}
use Rattle.state_core.specs.declared.moves.Next.{Next}
use Rattle.state_core.specs.declared.moves.Next.TheVariants as next
use Rattle.state_core.specs.declared.round.Pair.{Pair}
use Rattle.state_core.specs.declared.placement.Placement.TheVariants.{Moving}
use Rattle.state_core.specs.Pairs.{IsPair, HaveMet}
use Rattle.state_core.specs.ZoneState.{ZoneState}
use Rattle.state_core.specs.Carrying.{page_now, relocated}
use Rattle.frame_core.specs.Page.{IsolatedPage}

-- whether the journal has a place for an isolation and one for its end, besides those for the ends of the pages that are out
abbrev pub has_room_for_two : ZoneState → Bool
has_room_for_two z = nat_lt (length (out z.records) + 1) z.room

-- why an isolation is refused, if it is: the journal has no room for it and its end
abbrev pub isolate_refusal : ZoneState → Option ZoneError
isolate_refusal z = if has_room_for_two z then None else Some JournalFull

-- the zone after the page of a pair was isolated: the page is moving under the next serial, and the fingers are one
-- above its source and at its target
abbrev pub isolated_next : ZoneState → Pair → ZoneState
isolated_next z pair =
    let serial = isolated z.records in
    record (relocated z (Isolate pair.page serial) pair.page (Moving serial pair.source pair.target)) { migrate = pair.source + 1; free = pair.target }

-- the answer of a scan: the page of the pair, or Met where there is no pair
abbrev pub next_answer : ZoneState → Option Pair → Next IsolatedPage
next_answer z None = next.Met
next_answer z (Some pair) = next.Page (record { serial = isolated z.records; page = page_now z pair.page })

-- the zone after a scan, which changes nothing where there is no pair
abbrev pub next_state : ZoneState → Option Pair → ZoneState
next_state z None = z
next_state z (Some pair) = isolated_next z pair

-- the page of the pair is moving under a serial, at each address that names it, and nothing else moved
pub record IsIsolated (old new : ZoneState) (page serial : ℕ) : Type 0 where
  pub source : ℕ
  pub target : ℕ
  pub pair : IsPair old page source target
  pub way : map.get new.placement page ≡ Some (Moving serial source target)
  pub others : (other : ℕ) → other ≢ page → map.get new.placement other ≡ map.get old.placement other
  pub names : (address : Address) → page_at new.records address ≡ page_at old.records address

-- the answer in terms of pairs: the page of the pair is isolated, or there is no pair
abbrev pub Scans : ZoneState → ZoneState → Next IsolatedPage → Type 0
Scans old new next.Met = HaveMet old
Scans old new (next.Page p) = IsIsolated old new p.page.number p.serial
