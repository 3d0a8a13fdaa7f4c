use Rattle.std.proofs.Common.{rules}
use Rattle.round_core.proofs.Sharing.{shared}
use Rattle.round_core.proofs.compacting.settle_round.Goals as goal

pub returns-clause-settled : goal.returns-clause-settled
returns-clause-settled c =
    let ran = c.args.ran in
    let settled = c.in-Ok.ensures in
    record {
      base = search rules;
      shared = shared _ ran.joined.takers.items _ _ _ (c.requires.listed (search rules)) settled.count.1 settled.serials settled.rising;
      stopped = search rules;
      lists = search rules;
    }
