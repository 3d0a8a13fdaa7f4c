use Rattle.number_set.proofs.OneAbove.{all_below}
use Rattle.number_set.proofs.number_set.NumberSet.filled.Goals as goal

pub returns-clause-all : goal.returns-clause-all
returns-clause-all c = all_below c.in_ok-set.set.members c.insert_below.new.self.members c.args.bound c.in_ok-set.ensures.empty c.insert_below.ensures.numbers
