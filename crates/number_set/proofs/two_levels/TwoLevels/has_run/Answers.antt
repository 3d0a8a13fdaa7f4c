use Rattle.std.proofs.Common.{◌^◌}
use Rattle.number_set.proofs.OneAbove.{run_members}
use Rattle.number_set.proofs.two_levels.TwoLevels.has_run.Goals as goal

pub returns : goal.returns
returns c = run_members c.self.inside.words c.args.self.now c.has_run.result c.args.first (2 ^ c.args.order) c.self.view_is c.has_run.ensures
