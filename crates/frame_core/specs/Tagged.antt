-- What a contract sees of a number with a tag.
use Rattle.std.specs.Prelude.{ℕ}

-- a number, and the tag beside it
pub record Tagged : Type 0 where
  pub number : ℕ
  pub tag : ℕ
