use Rattle.std.proofs.Common.{arith}
use Rattle.std.proofs.lemmas.Grind.{common_steps}
use Rattle.huge_core.proofs.collector.Collector.fill.Goals as goal

pub loop-got-preserved : goal.loop-got-preserved
loop-got-preserved g c = grind (arith, common_steps)
