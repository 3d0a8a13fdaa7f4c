use Rattle.std.proofs.Common.{arith}
use Rattle.std.proofs.lemmas.Grind.{common_steps}
use Rattle.text_core.proofs.grammar.row_of_profile_2.Goals as goal

pub returns-in_ok-one_number-in-Huge : goal.returns-in_ok-one_number-in-Huge
returns-in_ok-one_number-in-Huge c = grind (arith, common_steps)

pub returns-in_ok-one_number-in-Mark : goal.returns-in_ok-one_number-in-Mark
returns-in_ok-one_number-in-Mark c = grind (arith, common_steps)

pub returns-in_ok-one_number-in-Unmark : goal.returns-in_ok-one_number-in-Unmark
returns-in_ok-one_number-in-Unmark c = grind (arith, common_steps)
