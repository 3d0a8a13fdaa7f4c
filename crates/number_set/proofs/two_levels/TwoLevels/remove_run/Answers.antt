use Rattle.std.proofs.Common.{◌^◌}
use Rattle.number_set.specs.Runs.{in_run}
use Rattle.number_set.proofs.OneAbove.{many_cut}
use Rattle.number_set.proofs.Running.{told_within}
use Rattle.number_set.proofs.two_levels.TwoLevels.remove_run.Goals as goal

pub remove_run-requires-then-remove_run-clause-within : goal.remove_run-requires-then-remove_run-clause-within
remove_run-requires-then-remove_run-clause-within c = told_within c.args.first c.args.order 64 c.saturating_sub.result c.requires.order c.requires.aligned c.saturating_sub.ensures c.requires.within

pub returns-then-remove_run : goal.returns-then-remove_run
returns-then-remove_run c = many_cut c.self.inside.words c.remove_run.new.words (in_run c.args.first (2 ^ c.args.order)) c.remove_run.ensures.numbers c.args.self.now c.self.view_is

pub returns-else-remove_run : goal.returns-else-remove_run
returns-else-remove_run c = many_cut c.self.inside.words c.remove_run.new.words (in_run c.args.first (2 ^ c.args.order)) c.remove_run.ensures.numbers c.args.self.now c.self.view_is
