use Rattle.std.proofs.Common.{subst}
use Rattle.number_set.specs.Finds.{IsLast}
use Rattle.number_set.proofs.Gathering.{no_members, word_members}
use Rattle.number_set.proofs.one_level.OneLevel.last.Goals as goal

pub returns-then-self-eq0-clause-last : goal.returns-then-self-eq0-clause-last
returns-then-self-eq0-clause-last c = no_members c.self.inside.bits c.args.self.now c.self.view_is c.if-self-eq0.true

pub returns-clause-last : goal.returns-clause-last
returns-clause-last c = subst (λ p. IsLast p c.highest_bit.result) (word_members c.self.inside.bits c.args.self.now c.self.view_is c.self.invariant) c.highest_bit.ensures.last
