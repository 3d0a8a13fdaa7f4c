use Rattle.std.proofs.Common.{◌≡◌, ℕ, List, [], ◌∷◌, length, get_or, ◌∙◌, refl, arith}
use Rattle.std.specs.Prelude.{codes}
use Rattle.text_core.specs.declared.token.Token.TheVariants.{Finish, Unmark, Compact, During, Unmovable}
use Rattle.text_core.proofs.Words.{by_word}
use Rattle.text_core.proofs.token.long_word.Goals as goal

six : (xs : List ℕ) → length xs ≡ 6 → xs ≡ get_or xs 0 0 ∷ get_or xs 1 0 ∷ get_or xs 2 0 ∷ get_or xs 3 0 ∷ get_or xs 4 0 ∷ get_or xs 5 0 ∷ []
six (a ∷ b ∷ c ∷ d ∷ e ∷ f ∷ []) few = refl
six _ few = absurd (omega arith)

seven : (xs : List ℕ) → length xs ≡ 7 → xs ≡ get_or xs 0 0 ∷ get_or xs 1 0 ∷ get_or xs 2 0 ∷ get_or xs 3 0 ∷ get_or xs 4 0 ∷ get_or xs 5 0 ∷ get_or xs 6 0 ∷ []
seven (a ∷ b ∷ c ∷ d ∷ e ∷ f ∷ g ∷ []) few = refl
seven _ few = absurd (omega arith)

nine : (xs : List ℕ) → length xs ≡ 9 → xs ≡ get_or xs 0 0 ∷ get_or xs 1 0 ∷ get_or xs 2 0 ∷ get_or xs 3 0 ∷ get_or xs 4 0 ∷ get_or xs 5 0 ∷ get_or xs 6 0 ∷ get_or xs 7 0 ∷ get_or xs 8 0 ∷ []
nine (a ∷ b ∷ c ∷ d ∷ e ∷ f ∷ g ∷ h ∷ i ∷ []) few = refl
nine _ few = absurd (omega arith)

pub returns-in-finish : goal.returns-in-finish
returns-in-finish c = by_word c.args.bytes.now (codes "finish") Finish (six c.args.bytes.now (omega arith) ∙ cc) refl

pub returns-in-unmark : goal.returns-in-unmark
returns-in-unmark c = by_word c.args.bytes.now (codes "unmark") Unmark (six c.args.bytes.now (omega arith) ∙ cc) refl

pub returns-in-compact : goal.returns-in-compact
returns-in-compact c = by_word c.args.bytes.now (codes "compact") Compact (seven c.args.bytes.now (omega arith) ∙ cc) refl

pub returns-in-during : goal.returns-in-during
returns-in-during c = by_word c.args.bytes.now (codes "during") During (six c.args.bytes.now (omega arith) ∙ cc) refl

pub returns-in-unmovable : goal.returns-in-unmovable
returns-in-unmovable c = by_word c.args.bytes.now (codes "unmovable") Unmovable (nine c.args.bytes.now (omega arith) ∙ cc) refl
