use Rattle.std.specs.Prelude.{nat_lt}
use Rattle.number_set.proofs.OneAbove.{many_put}
use Rattle.number_set.proofs.two_levels.TwoLevels.insert_below.Goals as goal

pub returns : goal.returns
returns c = many_put c.self.inside.words c.insert_below.new.words (λ n. nat_lt n c.args.bound) c.insert_below.ensures.numbers c.args.self.now c.self.view_is
