use Rattle.std.specs.VecDeque.{deque_capacity}
use Rattle.machine_core.proofs.Closing.{rest_left, audit_left}
use Rattle.machine_core.proofs.world.World.split.Goals as goal

pub invariant_of-result-2 : goal.invariant_of-result-2
invariant_of-result-2 g c =
    let z = c.self.inside in
    rest_left z.zone z.scan z.ends z.is_open z.waiting.items z.hands.held (deque_capacity z.waiting) c.self.invariant c.if-self.false

pub returns-clause-whole : goal.returns-clause-whole
returns-clause-whole g c = c.self.invariant.orderly.whole

pub returns-clause-audit : goal.returns-clause-audit
returns-clause-audit g c =
    let z = c.self.inside in
    audit_left z.zone z.scan z.ends z.is_open z.waiting.items z.hands.held (deque_capacity z.waiting) c.self.invariant c.if-self.false
