use Rattle.std.proofs.Common.{◌*◌, ◌/◌, ◌%◌, ◌^◌, slice_index, arith}
use Rattle.std.specs.Prelude.{bit_or}
use Rattle.number_set.proofs.Numbering.{added_some, filled_put, none_or_filled, put_in}
use Rattle.number_set.proofs.words.insert.Goals as goal

pub returns-clause-was_empty : goal.returns-clause-was_empty
returns-clause-was_empty c = none_or_filled (slice_index c.args.words.now (c.args.number / 64))

pub returns-clause-numbers : goal.returns-clause-numbers
returns-clause-numbers c = put_in c.args.words.now c.args.number (omega (arith, c.requires))

pub returns-clause-filled : goal.returns-clause-filled
returns-clause-filled c =
    let had = slice_index c.args.words.now (c.args.number / 64) in
    filled_put c.args.words.now (c.args.number / 64) (bit_or had (1 * 2 ^ (c.args.number % 64) % 2 ^ 64)) (omega (arith, c.requires)) (added_some had (c.args.number % 64) (omega arith))
