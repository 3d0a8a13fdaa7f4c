-- Which words are here, where some frames are lent.
use Rattle.std.specs.Prelude.{ℕ, ◌++◌, Bool, not, List, [], ◌∷◌, replicate}

-- of each word of frames of this size, whether it is here: where its frame isn't lent
abbrev pub here_of : ℕ → List Bool → List Bool
here_of size [] = []
here_of size (is_lent ∷ lent) = replicate size (not is_lent) ++ here_of size lent
