use Rattle.zone_core.proofs.Picking.{first_claimed, first_cost, first_least, first_picked}
use Rattle.zone_core.proofs.bare.BareZone.cheapest_run.Goals as goal

pub returns-clause-picked : goal.returns-clause-picked
returns-clause-picked g c = first_picked c.args.self.now c.args.order c.in_ok-run.run' c.in_ok-run.ensures.next c.in_ok-run.ensures.ranked c.run_start-first.result c.run_start-first.ensures

pub returns-clause-pages : goal.returns-clause-pages
returns-clause-pages g c = first_cost c.args.self.now c.args.order c.in_ok-run.run' c.in_ok-run.ensures.next c.in_ok-run.ensures.ranked c.run_start-first.result c.run_start-first.ensures

pub returns-clause-least : goal.returns-clause-least
returns-clause-least g c = first_least c.args.self.now c.args.order c.in_ok-run.run' c.in_ok-run.ensures.next c.in_ok-run.ensures.ranked c.run_start-first.result c.run_start-first.ensures

pub returns-clause-claim : goal.returns-clause-claim
returns-clause-claim g c = first_claimed c.args.self.now c.args.order c.in_ok-run.run' c.in_ok-run.ensures.next c.in_ok-run.ensures.ranked c.run_start-first.result c.run_start-first.ensures
