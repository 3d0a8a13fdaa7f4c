use Rattle.std.specs.VecDeque.{deque_capacity}
use Rattle.state_core.specs.declared.call.ZoneCall.TheVariants.{Mark}
use Rattle.machine_core.proofs.Carrying.{carried_call}
use Rattle.machine_core.proofs.world.World.mark.Goals as goal

pub invariant_of-self : goal.invariant_of-self
invariant_of-self g c =
    let z = c.self.inside in
    carried_call z.zone c.mark.new.self z.scan z.ends z.is_open z.waiting.items z.hands.held (deque_capacity z.waiting) c.self.invariant
    g.row.W (Mark c.args.block) 0 c.mark.result c.mark.ensures.valid c.mark.ensures.refused c.mark.ensures.err c.mark.ensures.ok

pub returns-clause-orderly : goal.returns-clause-orderly
returns-clause-orderly g c = (invariant_of-self g c).orderly
