use Rattle.std.proofs.Common.{◌∙◌, ap}
use Rattle.std.specs.FinSet as set
use Rattle.std.specs.Ordering.{nat_cmp}
use Rattle.state_core.specs.Ending.{moved_to_target}
use Rattle.zone_tables.proofs.LendingMoves.{none_back}
use Rattle.zone_tables.proofs.zone.ZoneTables.arrive.Goals as goal

-- the words of the page weren't lent
pub returns-clause-step : goal.returns-clause-step
returns-clause-step g c =
    c.arrive_with.ensures.step
    ∙ ap (λ (away : set.FinSet nat_cmp). record (moved_to_target c.args.self.now c.args.way.now.serial c.args.way.now.page) { lent_pages = away }) (none_back c.args.self.now.lent_pages c.args.way.now.page c.requires.here)
