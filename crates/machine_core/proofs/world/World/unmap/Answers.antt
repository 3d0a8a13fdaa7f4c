use Rattle.std.specs.VecDeque.{deque_capacity}
use Rattle.state_core.specs.declared.call.ZoneCall.TheVariants.{Unmap}
use Rattle.machine_core.proofs.Carrying.{carried_call}
use Rattle.machine_core.proofs.world.World.unmap.Goals as goal

pub invariant_of-self : goal.invariant_of-self
invariant_of-self g c =
    let z = c.self.inside in
    carried_call z.zone c.unmap.new.self z.scan z.ends z.is_open z.waiting.items z.hands.held (deque_capacity z.waiting) c.self.invariant
    g.row.W (Unmap c.args.address) c.args.client c.unmap.result c.unmap.ensures.valid c.unmap.ensures.refused c.unmap.ensures.err c.unmap.ensures.ok

pub returns-clause-orderly : goal.returns-clause-orderly
returns-clause-orderly g c = (invariant_of-self g c).orderly
