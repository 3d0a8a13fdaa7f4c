use Rattle.huge_core.proofs.Refused.{refused}
use Rattle.huge_core.proofs.collector.take.Goals as goal

pub returns-clause-refused : goal.returns-clause-refused
returns-clause-refused g c =
    refused c.behind-room.inside.zone c.args.order c.behind-room.invariant.0 c.take.result c.take.ensures.refused
