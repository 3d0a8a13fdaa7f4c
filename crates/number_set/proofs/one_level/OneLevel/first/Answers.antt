use Rattle.std.proofs.Common.{subst}
use Rattle.number_set.specs.Finds.{IsFirst}
use Rattle.number_set.proofs.Gathering.{no_members, word_members}
use Rattle.number_set.proofs.one_level.OneLevel.first.Goals as goal

pub returns-then-self-eq0-clause-first : goal.returns-then-self-eq0-clause-first
returns-then-self-eq0-clause-first c = no_members c.self.inside.bits c.args.self.now c.self.view_is c.if-self-eq0.true

pub returns-clause-first : goal.returns-clause-first
returns-clause-first c = subst (λ p. IsFirst p c.lowest_bit.result) (word_members c.self.inside.bits c.args.self.now c.self.view_is c.self.invariant) c.lowest_bit.ensures.first
