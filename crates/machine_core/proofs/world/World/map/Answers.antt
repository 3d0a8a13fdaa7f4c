use Rattle.std.specs.VecDeque.{deque_capacity}
use Rattle.frame_core.specs.PageFlags.{is_unmovable}
use Rattle.machine_core.proofs.Carrying.{carried_mapped}
use Rattle.machine_core.proofs.world.World.map.Goals as goal

pub invariant_of-self : goal.invariant_of-self
invariant_of-self g c =
    let z = c.self.inside in
    carried_mapped z.zone c.map.new.self z.scan z.ends z.is_open z.waiting.items z.hands.held (deque_capacity z.waiting) c.self.invariant
    c.args.client c.args.address (is_unmovable c.args.flags) c.map.result c.map.ensures.valid c.map.ensures.refused c.map.ensures.err c.map.ensures.ok

pub returns-clause-orderly : goal.returns-clause-orderly
returns-clause-orderly g c = (invariant_of-self g c).orderly
