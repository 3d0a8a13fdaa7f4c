use Rattle.std.proofs.Common.{arith, rules}
use Rattle.std.proofs.lemmas.Grind.{common_steps}
use Rattle.text_core.proofs.grammar.row.Goals as goal

pub returns-in_ok-one_number-in-Take : goal.returns-in_ok-one_number-in-Take
returns-in_ok-one_number-in-Take c = grind (arith, common_steps)

pub returns-in_ok-one_number-in-Copy : goal.returns-in_ok-one_number-in-Copy
returns-in_ok-one_number-in-Copy c = grind (arith, common_steps)

pub returns-in_ok-one_number-in-Finish : goal.returns-in_ok-one_number-in-Finish
returns-in_ok-one_number-in-Finish c = grind (arith, common_steps)

pub returns-in_ok-one_number-in-Give : goal.returns-in_ok-one_number-in-Give
returns-in_ok-one_number-in-Give c = grind (arith, common_steps)

pub returns-in_default : goal.returns-in_default
returns-in_default c = search rules
