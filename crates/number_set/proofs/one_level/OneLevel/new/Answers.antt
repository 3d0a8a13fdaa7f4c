use Rattle.std.proofs.Common.{lit<}
use Rattle.number_set.proofs.Gathering.{no_bits}
use Rattle.number_set.proofs.one_level.OneLevel.new.Goals as goal

pub invariant_of-result : goal.invariant_of-result
invariant_of-result c = lit< tt

pub returns : goal.returns
returns c = no_bits
