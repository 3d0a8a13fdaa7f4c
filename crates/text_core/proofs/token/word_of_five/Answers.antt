use Rattle.std.proofs.Common.{◌≡◌, ℕ, List, [], ◌∷◌, length, get_or, ◌∙◌, refl, arith}
use Rattle.std.specs.Prelude.{codes}
use Rattle.text_core.specs.declared.token.Token.TheVariants.{Store, Share, Unmap, Unpin, MapAt}
use Rattle.text_core.proofs.Words.{by_word}
use Rattle.text_core.proofs.token.word_of_five.Goals as goal

five : (xs : List ℕ) → length xs ≡ 5 → xs ≡ get_or xs 0 0 ∷ get_or xs 1 0 ∷ get_or xs 2 0 ∷ get_or xs 3 0 ∷ get_or xs 4 0 ∷ []
five (a ∷ b ∷ c ∷ d ∷ e ∷ []) few = refl
five _ few = absurd (omega arith)

pub returns-in-store : goal.returns-in-store
returns-in-store c = by_word c.args.bytes.now (codes "store") Store (five c.args.bytes.now c.requires ∙ cc) refl

pub returns-in-share : goal.returns-in-share
returns-in-share c = by_word c.args.bytes.now (codes "share") Share (five c.args.bytes.now c.requires ∙ cc) refl

pub returns-in-unmap : goal.returns-in-unmap
returns-in-unmap c = by_word c.args.bytes.now (codes "unmap") Unmap (five c.args.bytes.now c.requires ∙ cc) refl

pub returns-in-unpin : goal.returns-in-unpin
returns-in-unpin c = by_word c.args.bytes.now (codes "unpin") Unpin (five c.args.bytes.now c.requires ∙ cc) refl

pub returns-in-mapat : goal.returns-in-mapat
returns-in-mapat c = by_word c.args.bytes.now (codes "mapat") MapAt (five c.args.bytes.now c.requires ∙ cc) refl
