use Rattle.hand_core.proofs.PageSteps.{mark_in}
use Rattle.hand_core.proofs.giver.Giver.mark.Goals as goal

pub send-requires-clause-rule : goal.send-requires-clause-rule
send-requires-clause-rule g c = (mark_in _ _ _ c.self.invariant.gives, λ items views rule at. tt)
