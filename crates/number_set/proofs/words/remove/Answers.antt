use Rattle.std.proofs.Common.{◌-◌, ◌*◌, ◌/◌, ◌%◌, ◌^◌, slice_index, arith}
use Rattle.std.specs.Prelude.{bit_and}
use Rattle.std.proofs.lemmas.Nat.{and_le_l}
use Rattle.number_set.proofs.Numbering.{filled_cut, taken_out}
use Rattle.number_set.proofs.words.remove.Goals as goal

pub returns-clause-numbers : goal.returns-clause-numbers
returns-clause-numbers c = taken_out c.args.words.now c.args.number (omega (arith, c.requires))

pub returns-clause-filled : goal.returns-clause-filled
returns-clause-filled c =
    let had = slice_index c.args.words.now (c.args.number / 64) in
    let others = 2 ^ 64 - 1 - 1 * 2 ^ (c.args.number % 64) % 2 ^ 64 in
    filled_cut c.args.words.now (c.args.number / 64) (bit_and had others) (omega (arith, c.requires)) (and_le_l had others)
