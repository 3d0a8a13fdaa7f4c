use Rattle.std.proofs.Common.{arith}
use Rattle.std.proofs.lemmas.Grind.{common_steps}
use Rattle.hand_core.proofs.taker.Taker.has_more.Goals as goal

pub returns : goal.returns
returns c = grind (arith, common_steps)
