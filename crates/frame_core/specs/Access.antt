-- The records of an access to several words in one call: one for each word. The newest record stands first.
use Rattle.std.specs.Prelude.{ℕ, ◌+◌, List, [], ◌∷◌}
use Rattle.frame_core.specs.declared.place.Address.{Address}
use Rattle.frame_core.specs.declared.access.Access.{Access}
use Rattle.frame_core.specs.declared.access.AccessKind.{AccessKind}
use Rattle.frame_core.specs.declared.access.AccessKind.TheVariants as kind
use Rattle.frame_core.specs.declared.record.Record.{Record}
use Rattle.frame_core.specs.declared.record.Record.TheVariants.{Load, Store}

abbrev record_by : AccessKind → ℕ → Address → ℕ → ℕ → Record
record_by kind.Load client address word value = Load client address word value
record_by kind.Store client address word value = Store client address word value

-- the record of an access to a word, which has this value
abbrev pub access_record : Access → ℕ → ℕ → Record
access_record access word value = record_by access.kind access.client access.address word value

-- these records, and then one of each of these values, in the words from one on
abbrev pub with_each : (ℕ → ℕ → Record) → ℕ → List ℕ → List Record → List Record
with_each of word [] records = records
with_each of word (value ∷ values) records = with_each of (word + 1) values (of word value ∷ records)
