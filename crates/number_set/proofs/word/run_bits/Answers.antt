use Rattle.number_set.proofs.Running.{run_is}
use Rattle.number_set.proofs.word.run_bits.Goals as goal

pub returns : goal.returns
returns c = λ bit. run_is c.args.first c.args.order bit c.requires.order c.requires.within
