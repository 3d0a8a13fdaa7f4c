use Rattle.zone_core.proofs.ByHand.{exact}
use Rattle.zone_core.proofs.outcome.comes_to_by_hand.Goals as goal

pub returns : goal.returns
returns c = exact
