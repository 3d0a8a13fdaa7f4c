use Rattle.std.proofs.Common.{subst}
use Rattle.std.specs.Prelude.{MatchOption}
use Rattle.number_set.specs.Finds.{IsNext, NoneAbove}
use Rattle.number_set.proofs.Gathering.{word_members}
use Rattle.number_set.proofs.one_level.OneLevel.after.Goals as goal

pub returns-clause-next : goal.returns-clause-next
returns-clause-next c = subst (λ p. MatchOption c.next_bit.result (NoneAbove p c.args.number) (IsNext p c.args.number)) (word_members c.self.inside.bits c.args.self.now c.self.view_is c.self.invariant) c.next_bit.ensures.next
