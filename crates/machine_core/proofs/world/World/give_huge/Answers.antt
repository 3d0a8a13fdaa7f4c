use Rattle.std.specs.Prelude.{◌*◌}
use Rattle.std.specs.VecDeque.{deque_capacity}
use Rattle.state_core.specs.declared.call.ZoneCall.TheVariants.{GiveOrder}
use Rattle.machine_core.proofs.Carrying.{carried_call}
use Rattle.machine_core.proofs.world.World.give_huge.Goals as goal

pub invariant_of-self : goal.invariant_of-self
invariant_of-self g c =
    let z = c.self.inside in
    carried_call z.zone c.give_huge.new.self z.scan z.ends z.is_open z.waiting.items z.hands.held (deque_capacity z.waiting) c.self.invariant
    g.row.W (GiveOrder (512 * c.args.block) 9) 0 c.give_huge.result c.give_huge.ensures.valid c.give_huge.ensures.refused c.give_huge.ensures.err c.give_huge.ensures.ok

pub returns-clause-orderly : goal.returns-clause-orderly
returns-clause-orderly g c = (invariant_of-self g c).orderly
