use Rattle.std.proofs.Common.{arith}
use Rattle.number_set.proofs.Masking.{highest_set}
use Rattle.number_set.proofs.word.highest_bit.Goals as goal

pub overflow_sub-result : goal.overflow_sub-result
overflow_sub-result c = let top = highest_set c.args.word c.requires c.ranges.word.fits in omega (arith, top.0)

pub returns : goal.returns
returns c = let top = highest_set c.args.word c.requires c.ranges.word.fits in record { last = top.1; within = omega (arith, top.0) }
