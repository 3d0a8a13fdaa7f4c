use Rattle.std.proofs.Common.{◌∙◌}
use Rattle.frame_core.proofs.FlatRows.{one_row}
use Rattle.frame_core.proofs.words.Words.row.Goals as goal

pub returns-clause-value : goal.returns-clause-value
returns-clause-value g c = c.block.ensures.words ∙ one_row c.args.self.now.rows c.args.frame c.requires.frame
