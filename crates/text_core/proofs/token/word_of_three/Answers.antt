use Rattle.std.proofs.Common.{◌≡◌, ℕ, List, [], ◌∷◌, length, get_or, ◌∙◌, refl, arith}
use Rattle.std.specs.Prelude.{codes}
use Rattle.text_core.specs.declared.token.Token.TheVariants.{Map, Pin, End}
use Rattle.text_core.proofs.Words.{by_word}
use Rattle.text_core.proofs.token.word_of_three.Goals as goal

three : (xs : List ℕ) → length xs ≡ 3 → xs ≡ get_or xs 0 0 ∷ get_or xs 1 0 ∷ get_or xs 2 0 ∷ []
three (a ∷ b ∷ c ∷ []) few = refl
three _ few = absurd (omega arith)

pub returns-in-map : goal.returns-in-map
returns-in-map c = by_word c.args.bytes.now (codes "map") Map (three c.args.bytes.now c.requires ∙ cc) refl

pub returns-in-pin : goal.returns-in-pin
returns-in-pin c = by_word c.args.bytes.now (codes "pin") Pin (three c.args.bytes.now c.requires ∙ cc) refl

pub returns-in-end : goal.returns-in-end
returns-in-end c = by_word c.args.bytes.now (codes "end") End (three c.args.bytes.now c.requires ∙ cc) refl
