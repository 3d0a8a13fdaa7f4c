use Rattle.std.proofs.Common.{subst}
use Rattle.round_core.specs.Runs.{IsRunOver}
use Rattle.round_core.proofs.Settling.{settled_run}
use Rattle.round_core.proofs.compacting.run_round.Goals as goal

pub returns : goal.returns
returns g c =
    let run = rw c.in-Some.is at c.in_scope.ensures in
    let scan = c.args.seats.now.scan in
    let ends = c.args.seats.now.ends in
    let after = c.in_scope.new.seats in
    let stops = g.K.Keeping.stops_at in
    let unpinned = g.K.Keeping.unpinned in
    let over = subst (λ most. IsRunOver stops unpinned most c.args.plan.copiers scan after.scan ends after.ends c.in-Some.ran) c.in-Ok.ensures.most
    (subst (λ copiers. IsRunOver stops unpinned c.in-Ok.memory.pages.left copiers scan after.scan ends after.ends c.in-Some.ran) c.in-Ok.ensures.copiers run.ran) in
    settled_run stops unpinned c.args.plan.most c.args.plan.copiers scan after.scan ends after.ends c.in-Some.ran c.settle_round.result over run.counts
    c.settle_round.ensures.settled c.settle_round.ensures.late
