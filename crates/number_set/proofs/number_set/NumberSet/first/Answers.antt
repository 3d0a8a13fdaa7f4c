use Rattle.std.proofs.Common.{subst, arith}
use Rattle.number_set.specs.Bits.{has_number}
use Rattle.number_set.specs.Finds.{IsFirstIn}
use Rattle.number_set.proofs.OneAbove.{first_in, none_in}
use Rattle.number_set.proofs.Levels.{members_of}
use Rattle.number_set.proofs.Starting.{starts_nowhere, starts_there}
use Rattle.number_set.proofs.number_set.NumberSet.first.Goals as goal

pub returns-then-self-len-clause-first : goal.returns-then-self-len-clause-first
returns-then-self-len-clause-first c = none_in c.self.inside.words.items c.self.inside.above.members c.args.self.now.members c.self.invariant.2 (members_of c.self.view_is) (starts_nowhere c.self.inside.words.items c.self.inside.above.members c.self.invariant.2 c.self.inside.lowest c.self.invariant.3 (omega (arith, c.if-self-len.true)))

pub returns-clause-first : goal.returns-clause-first
returns-clause-first c = first_in c.self.inside.words.items c.self.inside.above.members c.args.self.now.members c.self.invariant.2 (members_of c.self.view_is) c.self.inside.lowest c.first_in.result (starts_there c.self.inside.words.items c.self.inside.above.members c.self.invariant.2 c.self.inside.lowest c.self.invariant.3 (omega (arith, c.if-self-len.false))) (subst (λ words. IsFirstIn (has_number words) c.self.inside.lowest c.first_in.result) c.deref.ensures.value c.first_in.ensures)
