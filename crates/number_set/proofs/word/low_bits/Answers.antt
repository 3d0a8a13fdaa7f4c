use Rattle.number_set.proofs.Running.{low_is}
use Rattle.number_set.proofs.word.low_bits.Goals as goal

pub returns : goal.returns
returns c = λ bit. low_is c.args.count bit c.requires.some c.requires.within
