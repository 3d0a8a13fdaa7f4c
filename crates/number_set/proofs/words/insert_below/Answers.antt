use Rattle.std.proofs.Common.{arith}
use Rattle.number_set.proofs.Running.{part_below, part_below_filled, whole_below}
use Rattle.number_set.proofs.words.insert_below.Goals as goal

pub returns-then-bound-ne0-clause-numbers : goal.returns-then-bound-ne0-clause-numbers
returns-then-bound-ne0-clause-numbers c = part_below c.args.words.now c.write_run.new.words c.args.bound c.write_run.ensures.words c.low_bits.result (omega (arith, c.requires, c.if-bound-ne0.true, c.write_run.ensures.as_long)) (omega (arith, c.if-bound-ne0.true)) c.low_bits.ensures

pub returns-then-bound-ne0-clause-filled : goal.returns-then-bound-ne0-clause-filled
returns-then-bound-ne0-clause-filled c = part_below_filled c.args.words.now c.write_run.new.words c.args.bound c.write_run.ensures.words c.low_bits.result (omega (arith, c.requires, c.if-bound-ne0.true, c.write_run.ensures.as_long)) (omega (arith, c.if-bound-ne0.true)) c.low_bits.ensures

pub returns-else-bound-ne0-clause-numbers : goal.returns-else-bound-ne0-clause-numbers
returns-else-bound-ne0-clause-numbers c = whole_below c.args.words.now c.write_run.new.words c.args.bound c.write_run.ensures.words (omega (arith, c.if-bound-ne0.false))
