use Rattle.std.proofs.Common.{◌≡◌, ℕ, List, [], ◌∷◌, length, get_or, ◌∙◌, refl, arith}
use Rattle.std.specs.Prelude.{codes}
use Rattle.text_core.specs.declared.token.Token.TheVariants.{Zone, Load, Info, Scan, Take, Copy, Shut, Look, Huge, Give, Fill, Thin, Mark, Pool}
use Rattle.text_core.proofs.Words.{by_word}
use Rattle.text_core.proofs.token.word_of_four.Goals as goal

four : (xs : List ℕ) → length xs ≡ 4 → xs ≡ get_or xs 0 0 ∷ get_or xs 1 0 ∷ get_or xs 2 0 ∷ get_or xs 3 0 ∷ []
four (a ∷ b ∷ c ∷ d ∷ []) few = refl
four _ few = absurd (omega arith)

pub returns-in-zone : goal.returns-in-zone
returns-in-zone c = by_word c.args.bytes.now (codes "zone") Zone (four c.args.bytes.now c.requires ∙ cc) refl

pub returns-in-load : goal.returns-in-load
returns-in-load c = by_word c.args.bytes.now (codes "load") Load (four c.args.bytes.now c.requires ∙ cc) refl

pub returns-in-info : goal.returns-in-info
returns-in-info c = by_word c.args.bytes.now (codes "info") Info (four c.args.bytes.now c.requires ∙ cc) refl

pub returns-in-scan : goal.returns-in-scan
returns-in-scan c = by_word c.args.bytes.now (codes "scan") Scan (four c.args.bytes.now c.requires ∙ cc) refl

pub returns-in-take : goal.returns-in-take
returns-in-take c = by_word c.args.bytes.now (codes "take") Take (four c.args.bytes.now c.requires ∙ cc) refl

pub returns-in-copy : goal.returns-in-copy
returns-in-copy c = by_word c.args.bytes.now (codes "copy") Copy (four c.args.bytes.now c.requires ∙ cc) refl

pub returns-in-shut : goal.returns-in-shut
returns-in-shut c = by_word c.args.bytes.now (codes "shut") Shut (four c.args.bytes.now c.requires ∙ cc) refl

pub returns-in-look : goal.returns-in-look
returns-in-look c = by_word c.args.bytes.now (codes "look") Look (four c.args.bytes.now c.requires ∙ cc) refl

pub returns-in-huge : goal.returns-in-huge
returns-in-huge c = by_word c.args.bytes.now (codes "huge") Huge (four c.args.bytes.now c.requires ∙ cc) refl

pub returns-in-give : goal.returns-in-give
returns-in-give c = by_word c.args.bytes.now (codes "give") Give (four c.args.bytes.now c.requires ∙ cc) refl

pub returns-in-fill : goal.returns-in-fill
returns-in-fill c = by_word c.args.bytes.now (codes "fill") Fill (four c.args.bytes.now c.requires ∙ cc) refl

pub returns-in-thin : goal.returns-in-thin
returns-in-thin c = by_word c.args.bytes.now (codes "thin") Thin (four c.args.bytes.now c.requires ∙ cc) refl

pub returns-in-mark : goal.returns-in-mark
returns-in-mark c = by_word c.args.bytes.now (codes "mark") Mark (four c.args.bytes.now c.requires ∙ cc) refl

pub returns-in-pool : goal.returns-in-pool
returns-in-pool c = by_word c.args.bytes.now (codes "pool") Pool (four c.args.bytes.now c.requires ∙ cc) refl
