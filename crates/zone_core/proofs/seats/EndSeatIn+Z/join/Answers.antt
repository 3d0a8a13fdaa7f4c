use Rattle.std.proofs.Common.{rules}
use Rattle.zone_core.proofs.seats.EndSeatIn+Z.join.Goals as goal

pub invariant_of-self : goal.invariant_of-self
invariant_of-self g c = search rules

pub returns-clause-sum : goal.returns-clause-sum
returns-clause-sum g c = search rules
