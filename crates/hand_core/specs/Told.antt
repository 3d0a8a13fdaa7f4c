-- What contracts see of one half of a pair: which pair it is, and the list.
use Rattle.std.specs.Prelude.{List, [], ◌∷◌, ◌++◌, Option, None, Some}
use Rattle.atomic_table.specs.Seated.{TableId}
use Rattle.frame_core.specs.declared.record.Record.{Record}

-- which pair it is
abbrev pub Pair : Type 0
Pair = TableId

-- one half of a pair: the list has the oldest record first
pub record Told : Type 0 where
  pub pair : Pair
  pub records : List Record

-- the half with one more record
abbrev pub written : Record → Told → Told
written entry told = record { pair = told.pair; records = told.records ++ entry ∷ [] }

-- the same, where there is a half
abbrev pub written_if : Record → Option Told → Option Told
written_if entry None = None
written_if entry (Some told) = Some (written entry told)

-- which pair it is, where there is a half
abbrev pub pair_of : Option Told → Option Pair
pair_of None = None
pair_of (Some told) = Some told.pair
