use Rattle.std.proofs.Common.{ℕ, ◌∷◌, [], length, ap, ◌∙◌, arith}
use Rattle.frame_core.specs.Words.{words_of, with_words, put_from}
use Rattle.frame_core.proofs.FlatRows.{one_row, one_stored, put_one}
use Rattle.frame_core.proofs.LentFrames.{only_rows}
use Rattle.frame_core.proofs.words.Words.store.Goals as goal

pub returns-clause-stored : goal.returns-clause-stored
returns-clause-stored g c =
    let rows = c.args.self.now.rows in
    let size = ap length (one_row rows c.args.frame c.requires.frame) in
    only_rows c.args.self.now c.store_block.new.self _ c.store_block.ensures.lent
    (one_stored rows c.store_block.new.self.rows c.args.frame c.get.result (c.args.value ∷ []) c.requires.frame c.store_block.ensures.stored
    ∙ ap (λ (word : ℕ). with_words rows c.args.frame (put_from (words_of rows c.args.frame) word (c.args.value ∷ []))) c.get.ensures.value
    ∙ ap (with_words rows c.args.frame) (put_one (words_of rows c.args.frame) c.args.word c.args.value (omega (arith, size, c.store_block.ensures.count))))
