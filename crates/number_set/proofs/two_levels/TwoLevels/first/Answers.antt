use Rattle.number_set.proofs.OneAbove.{first_in, none_in}
use Rattle.number_set.proofs.two_levels.TwoLevels.first.Goals as goal

pub returns-in_default-clause-first : goal.returns-in_default-clause-first
returns-in_default-clause-first c = none_in c.self.inside.words c.self.inside.above c.args.self.now c.self.invariant.1 c.self.view_is c.in_default.ensures.first

pub returns-clause-first : goal.returns-clause-first
returns-clause-first c = first_in c.self.inside.words c.self.inside.above c.args.self.now c.self.invariant.1 c.self.view_is c.in-Some.word c.first_in.result c.in-Some.ensures.first c.first_in.ensures
