use Rattle.std.proofs.Common.{sym, ◌∙◌}
use Rattle.number_set.proofs.OneAbove.{kept_above, numbers_put, put_above}
use Rattle.number_set.proofs.two_levels.TwoLevels.insert.Goals as goal

pub invariant_of-self : goal.invariant_of-self
invariant_of-self c = (c.insert.ensures.as_long ∙ c.self.invariant.0, put_above c.self.inside.words c.insert.new.words c.args.number c.insert.ensures.filled c.self.inside.above c.self.invariant.1 c.insert-then-insert.new.self c.insert-then-insert.ensures)

pub invariant_of-self-else-insert : goal.invariant_of-self-else-insert
invariant_of-self-else-insert c = (c.insert.ensures.as_long ∙ c.self.invariant.0, kept_above c.self.inside.words c.insert.new.words c.args.number c.insert.ensures.filled c.self.inside.above c.self.invariant.1 (sym c.insert.ensures.was_empty ∙ c.if-insert.false))

pub returns-then-insert : goal.returns-then-insert
returns-then-insert c = numbers_put c.self.inside.words c.insert.new.words c.args.number c.insert.ensures.numbers c.args.self.now c.self.view_is

pub returns-else-insert : goal.returns-else-insert
returns-else-insert c = numbers_put c.self.inside.words c.insert.new.words c.args.number c.insert.ensures.numbers c.args.self.now c.self.view_is
