use Rattle.std.proofs.Common.{subst}
use Rattle.std.specs.Prelude.{MatchOption}
use Rattle.number_set.specs.Finds.{IsPrevious, NoneBelow}
use Rattle.number_set.proofs.Gathering.{word_members}
use Rattle.number_set.proofs.one_level.OneLevel.before.Goals as goal

pub returns-clause-previous : goal.returns-clause-previous
returns-clause-previous c = subst (λ p. MatchOption c.previous_bit.result (NoneBelow p c.args.number) (IsPrevious p c.args.number)) (word_members c.self.inside.bits c.args.self.now c.self.view_is c.self.invariant) c.previous_bit.ensures.previous
