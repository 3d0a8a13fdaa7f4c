use Rattle.std.specs.VecDeque.{deque_capacity}
use Rattle.state_core.specs.declared.call.ZoneCall.TheVariants.{Unmark}
use Rattle.machine_core.proofs.Carrying.{carried_call}
use Rattle.machine_core.proofs.world.World.unmark.Goals as goal

pub invariant_of-self : goal.invariant_of-self
invariant_of-self g c =
    let z = c.self.inside in
    carried_call z.zone c.unmark.new.self z.scan z.ends z.is_open z.waiting.items z.hands.held (deque_capacity z.waiting) c.self.invariant
    g.row.W (Unmark c.args.block) 0 c.unmark.result c.unmark.ensures.valid c.unmark.ensures.refused c.unmark.ensures.err c.unmark.ensures.ok

pub returns-clause-orderly : goal.returns-clause-orderly
returns-clause-orderly g c = (invariant_of-self g c).orderly
