use Rattle.zone_core.proofs.RoundsKept.{by_hand_agrees}
use Rattle.zone_core.proofs.agreement.rounds_agree.Goals as goal

pub returns : goal.returns
returns c = by_hand_agrees
