use Rattle.std.proofs.Common.{refl}
use Rattle.number_set.proofs.Numbering.{last_here}
use Rattle.number_set.proofs.words.last_in.Goals as goal

pub returns : goal.returns
returns c = last_here c.args.words.now c.args.word c.highest_bit.result _ c.highest_bit.ensures.last c.highest_bit.ensures.within refl
