use Rattle.number_set.proofs.Masking.{lowest_set}
use Rattle.number_set.proofs.word.lowest_bit.Goals as goal

pub returns : goal.returns
returns c = let at = lowest_set c.args.word c.requires c.ranges.word.fits in record { first = at.0; within = at.1 }
