-- How many pages of a zone were isolated, moved and put back.
use Rattle.std.specs.Prelude.{ℕ}

-- the moves of a zone
pub record Moves : Type 0 where
  pub isolated : ℕ
  pub moved : ℕ
  pub back : ℕ
