use Rattle.std.proofs.Common.{arith}
use Rattle.std.proofs.lemmas.Grind.{common_steps}
use Rattle.table_core.proofs.names.rank.Goals as goal

pub returns-then-order_of-clause-value : goal.returns-then-order_of-clause-value
returns-then-order_of-clause-value c = grind (arith, common_steps)

pub loop-i-preserved : goal.loop-i-preserved
loop-i-preserved c = grind (arith, common_steps)
