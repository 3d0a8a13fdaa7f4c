use Rattle.std.proofs.Common.{refl}
use Rattle.number_set.proofs.Numbering.{first_here}
use Rattle.number_set.proofs.words.first_in.Goals as goal

pub returns : goal.returns
returns c = first_here c.args.words.now c.args.word c.lowest_bit.result _ c.lowest_bit.ensures.first c.lowest_bit.ensures.within refl
