-- What is true of the fields of a journal.
use Rattle.std.specs.Prelude.{◌≡◌, ◌+◌, ◌≤◌, ℕ, List, length, reverse, Option, None, Some}
use Rattle.frame_core.specs.FixedVec.{FixedVec}
use Rattle.frame_core.specs.Journal.{unrecorded_places}
use Rattle.frame_core.specs.declared.journal.Journal.TheInside.{Inside}
use Rattle.frame_core.specs.declared.record.Record.{Record}

-- what is in memory of these records, in a journal with this many places: all of them up to 65,536 places, and else none
abbrev pub HasKept : List Record → ℕ → Option (FixedVec Record) → Type 0
HasKept records places (Some kept) = (reverse kept.items ≡ records) × (length kept.items + kept.room ≡ places) × (places ≤ 65536)
HasKept records places None = places ≡ unrecorded_places

-- the records are counted, there are places for them, and they are kept
pub record IsInOrder (j : Inside) : Type 0 where
  pub counted : j.count ≡ length j.records
  pub within : j.count ≤ j.places
  pub kept : HasKept j.records j.places j.kept
