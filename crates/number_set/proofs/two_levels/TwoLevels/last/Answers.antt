use Rattle.number_set.proofs.OneAbove.{last_in, none_in}
use Rattle.number_set.proofs.two_levels.TwoLevels.last.Goals as goal

pub returns-in_default-clause-last : goal.returns-in_default-clause-last
returns-in_default-clause-last c = none_in c.self.inside.words c.self.inside.above c.args.self.now c.self.invariant.1 c.self.view_is c.in_default.ensures.last

pub returns-clause-last : goal.returns-clause-last
returns-clause-last c = last_in c.self.inside.words c.self.inside.above c.args.self.now c.self.invariant.1 c.self.view_is c.in-Some.word c.last_in.result c.in-Some.ensures.last c.last_in.ensures
