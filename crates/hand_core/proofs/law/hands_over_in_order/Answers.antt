use Rattle.hand_core.proofs.HandedOver.{handed_over, unmarked}
use Rattle.hand_core.proofs.law.hands_over_in_order.Goals as goal

pub returns-clause-in_order : goal.returns-clause-in_order
returns-clause-in_order c = handed_over

pub returns-clause-closed : goal.returns-clause-closed
returns-clause-closed c = unmarked
