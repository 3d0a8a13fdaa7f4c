use Rattle.std.proofs.Common.{◌∙◌}
use Rattle.scan_core.proofs.Counting.{whole_counted}
use Rattle.scan_core.proofs.blocks.whole_blocks.Goals as goal

pub returns : goal.returns
returns c = c.whole.ensures.count ∙ whole_counted c.of.result c.args.frames.now c.of.ensures c.requires
