use Rattle.std.proofs.Common.{refl}
use Rattle.number_set.proofs.Masking.{no_previous, pow_some, previous_set}
use Rattle.number_set.proofs.word.previous_bit.Goals as goal

pub overflow_sub-below : goal.overflow_sub-below
overflow_sub-below c = pow_some c.args.from c.requires

pub returns-then-below-eq0-clause-previous : goal.returns-then-below-eq0-clause-previous
returns-then-below-eq0-clause-previous c = no_previous c.args.word c.args.from _ c.requires refl c.if-below-eq0.true

pub returns-clause-previous : goal.returns-clause-previous
returns-clause-previous c = previous_set c.args.word c.args.from _ c.requires refl c.highest_bit.result c.highest_bit.ensures.last
