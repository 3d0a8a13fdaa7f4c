use Rattle.std.proofs.Common.{◌≡◌, ◌≢◌, ◌≤◌, ◌↔◌, IfOk}
use Rattle.round_core.specs.declared.round.Stop.TheVariants as stop
use Rattle.round_core.proofs.Limits.{if_limited}
use Rattle.round_core.proofs.compacting.compact_at_most.Goals as goal
use Rattle.round_core.proofs.compacting.compact_at_most.Given.{Over}
use Rattle.round_core.proofs.compacting.compact_at_most.Goals.{After-run_whole}

module _ (g : Over) (c : After-run_whole g) where
  limited : IfOk c.run_whole.result (λ r. r.count ≤ c.args.most) × IfOk c.run_whole.result (λ r. (r.stopped ≡ stop.Most) ↔ (r.count ≡ c.args.most))
      × IfOk c.run_whole.result (λ r. r.stopped ≢ stop.Most → g.K.Keeping.stops_at c.run_whole.new.seats.scan.count r.stopped)
  limited =
      if_limited g.K.Keeping.stops_at c.args.most c.args.seats.now.scan c.run_whole.new.seats.scan c.args.seats.now.ends c.run_whole.new.seats.ends
      c.run_whole.result c.run_whole.ensures.stops c.run_whole.ensures.round

pub returns-clause-most : goal.returns-clause-most
returns-clause-most g c = (limited g c).0

pub returns-clause-exact : goal.returns-clause-exact
returns-clause-exact g c = (limited g c).1

pub returns-clause-stops : goal.returns-clause-stops
returns-clause-stops g c = (limited g c).2
