use Rattle.std.proofs.Common.{◌^◌}
use Rattle.number_set.specs.Runs.{in_run}
use Rattle.number_set.proofs.OneAbove.{many_put}
use Rattle.number_set.proofs.Running.{told_within}
use Rattle.number_set.proofs.two_levels.TwoLevels.insert_run.Goals as goal

pub insert_run-requires-then-insert_run-clause-within : goal.insert_run-requires-then-insert_run-clause-within
insert_run-requires-then-insert_run-clause-within c = told_within c.args.first c.args.order 64 c.saturating_sub.result c.requires.order c.requires.aligned c.saturating_sub.ensures c.requires.within

pub returns-then-insert_run : goal.returns-then-insert_run
returns-then-insert_run c = many_put c.self.inside.words c.insert_run.new.words (in_run c.args.first (2 ^ c.args.order)) c.insert_run.ensures.numbers c.args.self.now c.self.view_is

pub returns-else-insert_run : goal.returns-else-insert_run
returns-else-insert_run c = many_put c.self.inside.words c.insert_run.new.words (in_run c.args.first (2 ^ c.args.order)) c.insert_run.ensures.numbers c.args.self.now c.self.view_is
