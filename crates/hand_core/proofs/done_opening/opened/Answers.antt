use Rattle.hand_core.proofs.CopySteps.{opens}
use Rattle.hand_core.proofs.done_opening.opened.Goals as goal

pub bounded_with-requires-clause-rule : goal.bounded_with-requires-clause-rule
bounded_with-requires-clause-rule c = opens
