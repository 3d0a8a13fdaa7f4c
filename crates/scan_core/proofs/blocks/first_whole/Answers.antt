use Rattle.std.proofs.Common.{◌∙◌}
use Rattle.scan_core.proofs.Counting.{first_counted}
use Rattle.scan_core.proofs.blocks.first_whole.Goals as goal

pub returns : goal.returns
returns c = c.first.ensures.lowest ∙ first_counted c.of.result c.args.frames.now c.of.ensures c.requires
