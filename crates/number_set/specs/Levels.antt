-- The levels of a set: what each tells of the one below it.
use Rattle.std.specs.Prelude.{◌≡◌, ℕ, List}
use Rattle.std.specs.Ordering.{nat_cmp}
use Rattle.std.specs.FinSet as set
use Rattle.number_set.specs.Bits.{is_filled}

-- the set above has exactly the words that have a number
abbrev pub Summarizes : set.FinSet nat_cmp → List ℕ → Type 0
Summarizes above words = (word : ℕ) → set.contains above word ≡ is_filled words word
