use Rattle.std.specs.VecDeque.{deque_capacity}
use Rattle.machine_core.proofs.Carrying.{carried_taken}
use Rattle.machine_core.proofs.world.World.take_order.Goals as goal

pub invariant_of-self : goal.invariant_of-self
invariant_of-self g c =
    let z = c.self.inside in
    carried_taken z.zone c.take_order.new.self z.scan z.ends z.is_open z.waiting.items z.hands.held (deque_capacity z.waiting) c.self.invariant
    (λ first. first) c.args.order c.take_order.result c.take_order.ensures.valid c.take_order.ensures.err c.take_order.ensures.ok

pub returns-clause-orderly : goal.returns-clause-orderly
returns-clause-orderly g c = (invariant_of-self g c).orderly
