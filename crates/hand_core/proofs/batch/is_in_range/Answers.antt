use Rattle.std.proofs.Common.{rules}
use Rattle.hand_core.proofs.batch.is_in_range.Goals as goal

pub returns-then-most-le-BATCH_CAPACITY : goal.returns-then-most-le-BATCH_CAPACITY
returns-then-most-le-BATCH_CAPACITY c =
    let all = c.if-most-le-BATCH_CAPACITY.true in
    (λ is. (all.0, all.1, all.2, all.3, all.4, search rules), λ every. search rules)
