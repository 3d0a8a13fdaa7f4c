use Rattle.hand_core.proofs.PageSteps.{opens}
use Rattle.hand_core.proofs.opening.opened.Goals as goal

pub bounded_with-requires-clause-rule : goal.bounded_with-requires-clause-rule
bounded_with-requires-clause-rule c = opens
