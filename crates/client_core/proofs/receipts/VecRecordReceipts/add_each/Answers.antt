use Rattle.std.proofs.Common.{arith}
use Rattle.std.proofs.lemmas.Grind.{common_steps}
use Rattle.client_core.proofs.receipts.VecRecordReceipts.add_each.Goals as goal

pub loop-offset-preserved : goal.loop-offset-preserved
loop-offset-preserved c = grind (arith, common_steps)
