-- The row of `during`, which begins a block, and all others; and which tokens are numbers.
use Rattle.std.proofs.Common.{◌≡◌, ◌∙◌, ℕ, List, [], ◌∷◌, ap, refl, Option, Some, None}
use Rattle.std.specs.Option.{option_or}
use Rattle.text_core.specs.declared.command.Command.{Command}
use Rattle.text_core.specs.declared.profile.Profile.{Profile}
use Rattle.text_core.specs.declared.profile.Profile.TheVariants.{Untold, One, Two}
use Rattle.text_core.specs.declared.token.Token.{Token}
use Rattle.text_core.specs.declared.token.Token.TheVariants.{During, Number}
use Rattle.text_core.specs.Arguments.{four_of, two_of}
use Rattle.text_core.specs.Grammar.{command_of, during_row, row_in, zone_of}

row_in-During : (profile : Profile) (z : Option ℕ) (arguments : List Token) → row_in profile During z arguments ≡ None
row_in-During Untold z arguments = refl
row_in-During One z arguments = refl
row_in-During Two z arguments = refl

during_row-other : (keyword : Token) (zone : ℕ) (arguments : List Token) → (keyword ≡ During → ⊥) → during_row keyword zone arguments ≡ None
during_row-other During zone arguments other = absurd (other refl)
during_row-other keyword zone arguments other = refl

option_or-None : (row : Option Command) → option_or row None ≡ row
option_or-None None = refl
option_or-None (Some command) = refl

pub command_of-During : (profile : Profile) (zone : ℕ) (arguments : List Token)
    → command_of profile (During ∷ Number zone ∷ arguments) ≡ during_row During zone arguments
command_of-During profile zone arguments =
    ap (λ (row : Option Command). option_or row (during_row During zone arguments)) (row_in-During profile (zone_of zone) arguments)

pub command_of-other : (profile : Profile) (keyword : Token) (zone : ℕ) (arguments : List Token) → (keyword ≡ During → ⊥)
    → command_of profile (keyword ∷ Number zone ∷ arguments) ≡ row_in profile keyword (zone_of zone) arguments
command_of-other profile keyword zone arguments other =
    ap (λ (row : Option Command). option_or (row_in profile keyword (zone_of zone) arguments) row) (during_row-other keyword zone arguments other)
    ∙ option_or-None (row_in profile keyword (zone_of zone) arguments)

pub two_are : (line : List Token) (a b : ℕ) → Some (a, b) ≡ two_of line → line ≡ Number a ∷ Number b ∷ []
two_are (Number c ∷ Number d ∷ []) a b e = let same : (c, d) ≡ (a, b) = cc in ap (λ (p : ℕ × ℕ). Number p.0 ∷ Number p.1 ∷ []) same
two_are _ a b e = absurd cc

pub four_are : (line : List Token) (a b c d : ℕ) → Some (a, b, c, d) ≡ four_of line → line ≡ Number a ∷ Number b ∷ Number c ∷ Number d ∷ []
four_are (Number e ∷ Number f ∷ Number g ∷ Number h ∷ []) a b c d is =
    let same : (e, f, g, h) ≡ (a, b, c, d) = cc in
    ap (λ (p : ℕ × ℕ × ℕ × ℕ). Number p.0 ∷ Number p.1 ∷ Number p.2 ∷ Number p.3 ∷ []) same
four_are _ a b c d is = absurd cc
