use Rattle.std.proofs.Common.{◌^◌}
use Rattle.number_set.proofs.Levels.{lent_has}
use Rattle.number_set.proofs.upper_levels.UpperLevels.has_run.Goals as goal

pub returns : goal.returns
returns c = lent_has c.self.inside.words.items c.args.self.now c.self.view_is c.deref.result.now c.has_run.result c.args.first (2 ^ c.args.order) c.deref.ensures.value c.has_run.ensures
