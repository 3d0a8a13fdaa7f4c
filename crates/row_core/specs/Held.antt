-- What a handle of words owns.
use Rattle.std.specs.Prelude.{ℕ, ◌^◌, length, Option, Some, None}
use Rattle.std.specs.Coded.{Coded, coded_option}
use base.Fml.{Fml, feq, flt, fsep}
use denote.RawPtr.{Ptr}
use Rattle.row_core.specs.Owned.{words_at}
use Rattle.row_core.specs.Seen.{Row, row_code}

-- nothing where there are no words; else the words of a row, at its pointer
abbrev pub held_at : Ptr → ℕ → Option Row → Fml
held_at p n None = feq ℕ n 0
held_at p n (Some row) = fsep (feq Ptr row.at p) (fsep (feq ℕ (length row.words) n) (fsep (flt 0 n) (fsep (flt n (2 ^ 60)) (words_at p row.words))))

-- how the logic stores the row of a handle
abbrev pub held_code : Coded (Option Row)
held_code = coded_option row_code
