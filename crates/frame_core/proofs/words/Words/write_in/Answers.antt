use Rattle.std.proofs.Common.{length, ap, ◌∙◌, arith}
use Rattle.frame_core.specs.Words.{words_of, with_words}
use Rattle.frame_core.proofs.FlatRows.{one_row, one_stored, put_all}
use Rattle.frame_core.proofs.LentFrames.{only_rows}
use Rattle.frame_core.proofs.words.Words.write_in.Goals as goal

pub returns-clause-written : goal.returns-clause-written
returns-clause-written g c =
    let rows = c.args.self.now.rows in
    let size = ap length (one_row rows c.args.frame c.requires.frame) in
    let words = ap length c.words.ensures.value in
    only_rows c.args.self.now c.store_block.new.self _ c.store_block.ensures.lent
    (one_stored rows c.store_block.new.self.rows c.args.frame 0 c.words.result.now c.requires.frame c.store_block.ensures.stored
    ∙ ap (with_words rows c.args.frame) (put_all (words_of rows c.args.frame) c.words.result.now (omega (arith, size, c.store_block.ensures.count, c.words.ensures.size)) ∙ c.words.ensures.value))
