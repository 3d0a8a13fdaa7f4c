use Rattle.std.proofs.Common.{arith}
use Rattle.number_set.proofs.Masking.{no_rest, rest_set}
use Rattle.number_set.proofs.word.bit_from.Goals as goal

pub returns-then-rest-eq0-clause-next : goal.returns-then-rest-eq0-clause-next
returns-then-rest-eq0-clause-next c = no_rest c.args.word c.args.from c.ranges.word.fits c.if-rest-eq0.true

pub returns : goal.returns
returns c = let found = rest_set c.args.word c.args.from c.ranges.word.fits (omega (arith, c.if-rest-eq0.false)) in record { next = found.0; within = found.1 }
