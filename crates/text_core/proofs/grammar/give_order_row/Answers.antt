use Rattle.std.proofs.Common.{arith}
use Rattle.std.proofs.lemmas.Grind.{common_steps}
use Rattle.text_core.proofs.grammar.give_order_row.Goals as goal

pub returns : goal.returns
returns c = grind (arith, common_steps)
