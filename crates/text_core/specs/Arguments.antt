-- The arguments of a line, where it has a certain number of them and nothing more.
use Rattle.std.specs.Prelude.{ℕ, Bool, true, false, List, [], ◌∷◌, Option, Some, None}
use Rattle.text_core.specs.declared.token.Token.{Token}
use Rattle.text_core.specs.declared.token.Token.TheVariants.{Number, Unmovable}

-- the number that comes first, if a number does
abbrev pub number_first : List Token → Option ℕ
number_first (Number a ∷ more) = Some a
number_first _ = None

-- the number that the tokens consist of, if they are one number
abbrev pub one_of : List Token → Option ℕ
one_of (Number a ∷ []) = Some a
one_of _ = None

-- the two numbers that the tokens consist of, if they are two
abbrev pub two_of : List Token → Option (ℕ × ℕ)
two_of (Number a ∷ Number b ∷ []) = Some (a, b)
two_of _ = None

-- the three numbers that the tokens consist of, if they are three
abbrev pub three_of : List Token → Option (ℕ × ℕ × ℕ)
three_of (Number a ∷ Number b ∷ Number c ∷ []) = Some (a, b, c)
three_of _ = None

-- the four numbers that the tokens consist of, if they are four
abbrev pub four_of : List Token → Option (ℕ × ℕ × ℕ × ℕ)
four_of (Number a ∷ Number b ∷ Number c ∷ Number d ∷ []) = Some (a, b, c, d)
four_of _ = None

-- whether the word `unmovable` is there: true for it, false for no token, and none for anything else
abbrev pub flag_of : List Token → Option Bool
flag_of [] = Some false
flag_of (Unmovable ∷ []) = Some true
flag_of _ = None

-- the two numbers and the flag that the tokens consist of, if they are these
abbrev pub two_and_flag_of : List Token → Option (ℕ × ℕ × Bool)
two_and_flag_of (Number a ∷ Number b ∷ []) = Some (a, b, false)
two_and_flag_of (Number a ∷ Number b ∷ Unmovable ∷ []) = Some (a, b, true)
two_and_flag_of _ = None

-- the three numbers and the flag that the tokens consist of, if they are these
abbrev pub three_and_flag_of : List Token → Option (ℕ × ℕ × ℕ × Bool)
three_and_flag_of (Number a ∷ Number b ∷ Number c ∷ []) = Some (a, b, c, false)
three_and_flag_of (Number a ∷ Number b ∷ Number c ∷ Unmovable ∷ []) = Some (a, b, c, true)
three_and_flag_of _ = None
