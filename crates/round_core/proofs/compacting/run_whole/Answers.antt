use Rattle.std.proofs.Common.{sym, subst}
use Rattle.round_core.specs.Counts.{CountsOn}
use Rattle.round_core.specs.Settling.{IsAnswered, IsRoundRun, answer_between}
use Rattle.round_core.proofs.Settling.{answered, no_less, on_seats}
use Rattle.round_core.proofs.compacting.run_whole.Goals as goal

pub round_between-requires : goal.round_between-requires
round_between-requires g c =
    let same = c.audit.ensures.same in
    let run = c.run_round-settled in
    let on = subst (λ ends. CountsOn ends run.new.seats.ends) same.1 run.ensures.counts in
    no_less c.args.seats.now.scan run.new.seats.scan c.args.seats.now.ends run.new.seats.ends c.in-Ok.before c.in-Ok.ensures.counts c.in-Ok.ensures.whole on
    c.audit-after.result c.audit-after.ensures.counts

pub returns : goal.returns
returns g c =
    let same = c.audit.ensures.same in
    let run = c.run_round-settled in
    let after = c.audit-after in
    let before = c.in-Ok.before in
    let ran = on_seats (λ scan ends. IsRoundRun g.K.Keeping.stops_at g.K.Keeping.unpinned c.args.plan.most c.args.plan.copiers scan run.new.seats.scan ends run.new.seats.ends run.result)
    c.audit.new.seats.scan c.args.seats.now.scan c.audit.new.seats.ends c.args.seats.now.ends (sym same.0, sym same.1) run.ensures in
    subst (λ result. IsAnswered g.K.Keeping.stops_at g.K.Keeping.unpinned c.args.plan.most c.args.plan.copiers c.args.seats.now.scan after.new.seats.scan c.args.seats.now.ends after.new.seats.ends result)
    (sym c.round_between.ensures)
    (on_seats (λ scan ends. IsAnswered g.K.Keeping.stops_at g.K.Keeping.unpinned c.args.plan.most c.args.plan.copiers c.args.seats.now.scan scan c.args.seats.now.ends ends (answer_between before run.result after.result))
    run.new.seats.scan after.new.seats.scan run.new.seats.ends after.new.seats.ends after.ensures.same
    (answered c.args.seats.now.scan run.new.seats.scan c.args.seats.now.ends run.new.seats.ends before c.in-Ok.ensures.counts c.in-Ok.ensures.whole ran.counts
    g.K.Keeping.stops_at g.K.Keeping.unpinned c.args.plan.most c.args.plan.copiers run.result after.result ran after.ensures.counts after.ensures.most))
