use Rattle.frame_core.proofs.FlatRows.{one_stored}
use Rattle.frame_core.proofs.LentFrames.{only_rows}
use Rattle.frame_core.proofs.words.Words.store_words.Goals as goal

pub returns-clause-stored : goal.returns-clause-stored
returns-clause-stored g c = only_rows c.args.self.now c.store_block.new.self _ c.store_block.ensures.lent (one_stored c.args.self.now.rows c.store_block.new.self.rows c.args.frame c.args.from c.args.values.now c.requires.frame c.store_block.ensures.stored)
