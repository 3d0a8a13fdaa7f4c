-- What the target of a moving page gets its words from.
use Rattle.std.specs.Prelude.{◌≡◌, ℕ, Bool, true, false, length, ⊤}
use Rattle.frame_core.specs.LentWords.{Words, place_of}
use Rattle.frame_core.specs.Words.{words_of}
use Rattle.row_core.specs.Seen.{Row}
use Rattle.zone_tables.specs.declared.ending.Carried.{Carried}
use Rattle.zone_tables.specs.declared.ending.Carried.TheVariants.{Copy, Rows}

-- what is true of the copy, where there is one
abbrev pub IfCopy : {S : Type 0} → Carried S → (S → Type 0) → Type 0
IfCopy (Copy words) is = is words
IfCopy _ is = ⊤

-- what is true of the rows of both frames, where they come back
abbrev pub IfRows : {S : Type 0} → Carried S → (Row → Row → Type 0) → Type 0
IfRows (Rows from to) is = is from to
IfRows _ is = ⊤

-- whether the rows of both frames come back
abbrev pub has_rows : {S : Type 0} → Carried S → Bool
has_rows (Rows from to) = true
has_rows _ = false

-- these rows are those of two frames, with so many words each, and the first one has the words that its frame had
pub record AreRowsOf (size : ℕ) (words : Words) (source target : ℕ) (from to : Row) : Type 0 where
  pub places : (from.at ≡ place_of size words source) × (to.at ≡ place_of size words target)
  pub sizes : (length from.words ≡ size) × (length to.words ≡ size)
  pub same : from.words ≡ words_of words.rows source
