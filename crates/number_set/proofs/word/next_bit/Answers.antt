use Rattle.std.proofs.Common.{refl, arith}
use Rattle.number_set.proofs.Masking.{next_set, no_next}
use Rattle.number_set.proofs.word.next_bit.Goals as goal

pub returns-then-above-eq0-clause-next : goal.returns-then-above-eq0-clause-next
returns-then-above-eq0-clause-next c = no_next c.args.word c.args.from _ c.ranges.word.fits refl c.if-above-eq0.true

pub returns : goal.returns
returns c = let found = next_set c.args.word c.args.from _ c.ranges.word.fits refl (omega (arith, c.if-above-eq0.false)) in record { next = found.0; within = found.1 }
