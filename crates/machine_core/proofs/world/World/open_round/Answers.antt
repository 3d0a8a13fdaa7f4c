use Rattle.std.proofs.Common.{subst}
use Rattle.std.specs.VecDeque.{deque_capacity}
use Rattle.machine_core.specs.World.{IsOrderly}
use Rattle.machine_core.proofs.Carrying.{carried_opened}
use Rattle.machine_core.proofs.world.World.open_round.Goals as goal

pub invariant_of-self : goal.invariant_of-self
invariant_of-self g c =
    let z = c.self.inside in
    rw (c.begin_round.ensures.zone, c.begin_round.ensures.seat) (carried_opened z.zone z.scan z.ends z.is_open z.waiting.items z.hands.held (deque_capacity z.waiting) c.self.invariant c.if-self.false)

pub returns-clause-orderly : goal.returns-clause-orderly
returns-clause-orderly g c = (invariant_of-self g c).orderly

pub returns-then-self-clause-orderly : goal.returns-then-self-clause-orderly
returns-then-self-clause-orderly g c = subst IsOrderly c.self.view_is c.self.invariant.orderly
