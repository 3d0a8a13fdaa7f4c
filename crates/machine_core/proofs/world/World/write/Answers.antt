use Rattle.std.specs.VecDeque.{deque_capacity}
use Rattle.machine_core.proofs.Carrying.{carried_written}
use Rattle.machine_core.proofs.world.World.write.Goals as goal

pub invariant_of-self : goal.invariant_of-self
invariant_of-self g c =
    let z = c.self.inside in
    carried_written z.zone c.write.new.self z.scan z.ends z.is_open z.waiting.items z.hands.held (deque_capacity z.waiting) c.self.invariant
    c.args.client c.args.address c.args.from c.args.values.now c.write.result c.write.ensures.valid c.write.ensures.refused c.write.ensures.err c.write.ensures.ok

pub returns-clause-orderly : goal.returns-clause-orderly
returns-clause-orderly g c = (invariant_of-self g c).orderly
