-- What a row is after it lent its words to be written.
use Rattle.std.specs.Prelude.{ℕ, List, length}
use Rattle.std.specs.Borrow.{Lends, Fml, MutBor, Array, u64}
use Rattle.std.specs.List.{refill}
use Rattle.row_core.specs.Seen.{Row}
use Rattle.row_core.specs.contracts.row.Row.{the_row}

-- a row with other words, as many as it has
abbrev pub with_words : Row → List ℕ → Row
with_words row words = record row { words = refill (length row.words) row.words words }

-- its words are the last ones that r shows
abbrev pub lends_words : MutBor Row → MutBor (List ℕ) → Fml
lends_words row r = Lends the_row (Array u64 0) row r (with_words row.now)
