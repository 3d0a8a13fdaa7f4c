-- The receipts of a read or a write of several words in one call, and what such a read answers and leaves.
use Rattle.std.specs.Prelude.{◌≡◌, ℕ, ◌+◌, true, List, [], ◌∷◌, Option}
use Rattle.frame_core.specs.declared.place.Address.{Address}
use Rattle.frame_core.specs.declared.record.Record.{Record}
use Rattle.hand_core.specs.Told.{Told, written_if}
use Rattle.round_core.specs.Calls.{is_of}
use Rattle.state_core.specs.Bulk.{values_at, loaded_all}
use Rattle.state_core.specs.Valid.{IsValidZone}
use Rattle.state_core.specs.ZoneState.{ZoneState}

-- the records of a call for the words from one on, which have these values: the oldest first
abbrev pub records_each : (ℕ → ℕ → Record) → ℕ → List ℕ → List Record
records_each of word [] = []
records_each of word (value ∷ values) = of word value ∷ records_each of (word + 1) values

-- a read answers the values of this many words, from one on, and leaves a load of each in the zone
abbrev pub reading : ℕ → Address → ℕ → ℕ → ZoneState → List ℕ → ZoneState → Type 0
reading client address from count zone values zone_new =
    (values ≡ values_at zone address from count) × (zone_new ≡ loaded_all zone client address from count)

-- one half of a pair with these records more, where there is a half
abbrev pub written_all : List Record → Option Told → Option Told
written_all [] told = told
written_all (entry ∷ entries) told = written_all entries (written_if entry told)

-- calls of a client, one after the other, each of a valid zone: these are their records, the oldest first
abbrev pub AreCalls : ℕ → List Record → ZoneState → ZoneState → Type 0
AreCalls client [] z z_new = z_new ≡ z
AreCalls client (entry ∷ entries) z z_new =
    (left : ZoneState) × IsValidZone z × (is_of client entry ≡ true) × (left.records ≡ entry ∷ z.records) × AreCalls client entries left z_new
