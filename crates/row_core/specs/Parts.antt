-- Parts of a list.
use Rattle.std.specs.Prelude.{◌≡◌, ℕ, ◌+◌, Bool, true, List, ◌++◌, take, drop, replicate}

module _ {X : Type 0} where
  -- so many items of a list, from one on
  abbrev pub part : List X → ℕ → ℕ → List X
  part items from count = take count (drop from items)

  -- a list with others in the place of so many items, from one on
  abbrev pub spliced : List X → ℕ → ℕ → List X → List X
  spliced items from count others = take from items ++ (others ++ drop (from + count) items)

-- each of these words is here
abbrev pub AreHere : List Bool → ℕ → Type 0
AreHere here count = here ≡ replicate count true
