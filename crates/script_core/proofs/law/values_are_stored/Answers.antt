use Rattle.machine_core.specs.Machine.{step}
use Rattle.script_core.specs.MachineByHand.{step_by_hand}
use Rattle.script_core.proofs.MachineByHand.{machine_by_hand}
use Rattle.script_core.proofs.Runs.{one_thread}
use Rattle.script_core.proofs.ValuesStored.{values_stored_by}
use Rattle.script_core.proofs.law.values_are_stored.Goals as goal

pub returns-clause-one_thread : goal.returns-clause-one_thread
returns-clause-one_thread c = λ places input range. values_stored_by places (step places) (one_thread places) range input

pub returns-clause-by_hand : goal.returns-clause-by_hand
returns-clause-by_hand c = λ places input range. values_stored_by places (step_by_hand places) (machine_by_hand places) range input
