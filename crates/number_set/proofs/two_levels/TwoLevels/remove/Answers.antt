use Rattle.std.proofs.Common.{◌∙◌}
use Rattle.number_set.proofs.OneAbove.{cut_above, left_above, numbers_cut}
use Rattle.number_set.proofs.two_levels.TwoLevels.remove.Goals as goal

pub invariant_of-self : goal.invariant_of-self
invariant_of-self c = (c.remove.ensures.as_long ∙ c.self.invariant.0, cut_above c.self.inside.words c.remove.new.words c.args.number c.remove.result c.remove.ensures.filled c.self.inside.above c.self.invariant.1 c.if-remove.true c.remove-then-remove.new.self c.remove-then-remove.ensures)

pub invariant_of-self-else-remove : goal.invariant_of-self-else-remove
invariant_of-self-else-remove c = (c.remove.ensures.as_long ∙ c.self.invariant.0, left_above c.self.inside.words c.remove.new.words c.args.number c.remove.result c.remove.ensures.filled c.self.inside.above c.self.invariant.1 c.if-remove.false)

pub returns-then-remove : goal.returns-then-remove
returns-then-remove c = numbers_cut c.self.inside.words c.remove.new.words c.args.number c.remove.ensures.numbers c.args.self.now c.self.view_is

pub returns-else-remove : goal.returns-else-remove
returns-else-remove c = numbers_cut c.self.inside.words c.remove.new.words c.args.number c.remove.ensures.numbers c.args.self.now c.self.view_is
