use Rattle.std.specs.VecDeque.{deque_capacity}
use Rattle.state_core.specs.declared.call.ZoneCall.TheVariants.{GiveOrder}
use Rattle.machine_core.proofs.Carrying.{carried_call}
use Rattle.machine_core.proofs.world.World.give_order.Goals as goal

pub invariant_of-self : goal.invariant_of-self
invariant_of-self g c =
    let z = c.self.inside in
    carried_call z.zone c.give_order.new.self z.scan z.ends z.is_open z.waiting.items z.hands.held (deque_capacity z.waiting) c.self.invariant
    g.row.W (GiveOrder c.args.first c.args.order) 0 c.give_order.result c.give_order.ensures.valid c.give_order.ensures.refused c.give_order.ensures.err c.give_order.ensures.ok

pub returns-clause-orderly : goal.returns-clause-orderly
returns-clause-orderly g c = (invariant_of-self g c).orderly
