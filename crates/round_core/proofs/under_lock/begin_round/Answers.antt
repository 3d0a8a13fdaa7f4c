use Rattle.std.proofs.Common.{rules}
use Rattle.round_core.proofs.under_lock.begin_round.Goals as goal

pub returns-clause-seat : goal.returns-clause-seat
returns-clause-seat g c = search rules

pub returns-clause-keeps : goal.returns-clause-keeps
returns-clause-keeps g c = search rules
