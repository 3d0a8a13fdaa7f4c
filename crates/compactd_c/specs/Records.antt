-- The records of a journal, as C sees them.
use Rattle.std.specs.Prelude.{ℕ, ◌+◌, ◌&&◌, length, nat_lt, nat_le, if◌then◌else◌, Option, Some, None}
use Rattle.frame_core.specs.declared.place.Address.{Address}
use Rattle.frame_core.specs.declared.record.Cause.{Cause}
use Rattle.frame_core.specs.declared.record.Cause.TheVariants.{Pinned, NotCopied}
use Rattle.frame_core.specs.declared.record.Record.{Record as Entry}
use Rattle.frame_core.specs.declared.record.Record.TheVariants.{Map, Share, Unmap, Store, Load, Pin, Unpin, Isolate, Moved, Back, TakeHuge, GiveHuge, Mark, Unmark}
use Rattle.state_core.specs.ZoneState.{ZoneState}
use Rattle.state_core.specs.declared.error.ZoneError.{ZoneError}
use Rattle.state_core.specs.declared.error.ZoneError.TheVariants.{Range}
use Rattle.compactd_c.specs.Told.{reserved}
use Rattle.compactd_c.specs.declared.records.Record.{Record}

-- a record of a client's call on an address
abbrev pub of_client : ℕ → ℕ → Address → ℕ → ℕ → ℕ → Record
of_client kind client address number other value = record {
  kind = kind;
  client = client;
  space = address.space;
  vpage = address.vpage;
  number = number;
  other = other;
  value = value;
  reserved = reserved;
}

-- a record that names no client and no address
abbrev pub of_zone : ℕ → ℕ → ℕ → Record
of_zone kind number other = record { kind = kind; client = 0; space = 0; vpage = 0; number = number; other = other; value = 0; reserved = reserved }

-- the number of why a page was put back
abbrev pub cause_of : Cause → ℕ
cause_of Pinned = 1
cause_of NotCopied = 2

-- a record, in numbers
abbrev pub record_of : Entry → Record
record_of (Map client address page) = of_client 1 client address page 0 0
record_of (Share client address alias) = of_client 2 client address alias.space alias.vpage 0
record_of (Unmap client address) = of_client 3 client address 0 0 0
record_of (Store client address word value) = of_client 4 client address word 0 value
record_of (Load client address word value) = of_client 5 client address word 0 value
record_of (Pin client address) = of_client 6 client address 0 0 0
record_of (Unpin client address) = of_client 7 client address 0 0 0
record_of (Isolate page serial) = of_zone 8 serial page
record_of (Moved serial) = of_zone 9 serial 0
record_of (Back cause serial) = of_zone 10 serial (cause_of cause)
record_of (TakeHuge frame order) = of_zone 11 frame order
record_of (GiveHuge frame order) = of_zone 12 frame order
record_of (Mark block) = of_zone 13 block 0
record_of (Unmark block) = of_zone 14 block 0

-- no record is told of a journal that isn't kept, which has more than 65,536 places, and none past its newest
abbrev pub record_refused : ZoneState → ℕ → Option ZoneError
record_refused z place = if nat_le (length z.records + z.room) 65536 && nat_lt place (length z.records) then None else Some Range
