use Rattle.number_set.proofs.OneAbove.{next_in_other, next_in_word, none_next}
use Rattle.number_set.proofs.two_levels.TwoLevels.after.Goals as goal

pub returns-in-Some-clause-next : goal.returns-in-Some-clause-next
returns-in-Some-clause-next c = next_in_word c.self.inside.words c.self.inside.above c.args.self.now c.self.invariant.1 c.self.view_is c.args.number c.in-Some.found c.in-Some.ensures.next

pub returns-in_default-after-clause-next : goal.returns-in_default-after-clause-next
returns-in_default-after-clause-next c = none_next c.self.inside.words c.self.inside.above c.args.self.now c.self.invariant.1 c.self.view_is c.args.number c.in_default.ensures.next c.in_default-after.ensures.next

pub returns-clause-next : goal.returns-clause-next
returns-clause-next c = next_in_other c.self.inside.words c.self.inside.above c.args.self.now c.self.invariant.1 c.self.view_is c.args.number c.in-Some-after.word c.first_in.result c.in_default.ensures.next c.in-Some-after.ensures.next c.first_in.ensures
