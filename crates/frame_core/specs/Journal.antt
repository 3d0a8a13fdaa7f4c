-- What contracts see of a journal.
use Rattle.std.specs.Prelude.{ℕ, ◌^◌, List}
use Rattle.frame_core.specs.declared.record.Record.{Record}

-- the records, the newest first, and how many places are left
pub record Journal : Type 0 where
  pub records : List Record
  pub room : ℕ

-- how many records a journal that is unrecorded has room for
abbrev pub unrecorded_places : ℕ
unrecorded_places = 2 ^ 53
