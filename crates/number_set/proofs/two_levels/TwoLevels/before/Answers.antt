use Rattle.number_set.proofs.OneAbove.{previous_in_other, previous_in_word, none_previous}
use Rattle.number_set.proofs.two_levels.TwoLevels.before.Goals as goal

pub returns-in-Some-clause-previous : goal.returns-in-Some-clause-previous
returns-in-Some-clause-previous c = previous_in_word c.self.inside.words c.self.inside.above c.args.self.now c.self.invariant.1 c.self.view_is c.args.number c.in-Some.found c.in-Some.ensures.previous

pub returns-in_default-before-clause-previous : goal.returns-in_default-before-clause-previous
returns-in_default-before-clause-previous c = none_previous c.self.inside.words c.self.inside.above c.args.self.now c.self.invariant.1 c.self.view_is c.args.number c.in_default.ensures.previous c.in_default-before.ensures.previous

pub returns-clause-previous : goal.returns-clause-previous
returns-clause-previous c = previous_in_other c.self.inside.words c.self.inside.above c.args.self.now c.self.invariant.1 c.self.view_is c.args.number c.in-Some-before.word c.last_in.result c.in_default.ensures.previous c.in-Some-before.ensures.previous c.last_in.ensures
