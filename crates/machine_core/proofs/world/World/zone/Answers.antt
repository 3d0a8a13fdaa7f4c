use Rattle.std.proofs.Common.{subst}
use Rattle.machine_core.specs.World.{IsOrderly}
use Rattle.machine_core.proofs.HandsTaking.{least_taken}
use Rattle.machine_core.proofs.world.World.zone.Goals as goal

pub returns-clause-least : goal.returns-clause-least
returns-clause-least g c hand serial after low high taken = least_taken c.args.self.now hand serial after low high (subst IsOrderly c.self.view_is c.self.invariant.orderly) taken
