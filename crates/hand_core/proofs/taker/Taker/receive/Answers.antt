use Rattle.std.proofs.Common.{arith}
use Rattle.hand_core.proofs.PageSteps.{off}
use Rattle.hand_core.proofs.taker.Taker.receive.Goals as goal

pub receive-requires-clause-rule : goal.receive-requires-clause-rule
receive-requires-clause-rule g c =
    let t = c.self.invariant in
    (off _ _ t.takes (let e = t.share in omega arith), λ items views rule at. tt)
