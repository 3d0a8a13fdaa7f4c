use Rattle.std.specs.Prelude.{length}
use Rattle.std.specs.VecDeque.{deque_capacity}
use Rattle.machine_core.proofs.Carrying.{carried_read}
use Rattle.machine_core.proofs.world.World.read.Goals as goal

pub invariant_of-self : goal.invariant_of-self
invariant_of-self g c =
    let z = c.self.inside in
    carried_read z.zone c.read.new.self z.scan z.ends z.is_open z.waiting.items z.hands.held (deque_capacity z.waiting) c.self.invariant
    _ c.args.client c.args.address c.args.from (length c.args.values.now) c.read.result c.read.ensures.valid c.read.ensures.err c.read.ensures.ok

pub returns-clause-orderly : goal.returns-clause-orderly
returns-clause-orderly g c = (invariant_of-self g c).orderly
