use Rattle.std.proofs.Common.{rules}
use Rattle.round_core.proofs.memory.reserve.Goals as goal

pub returns-clause-room : goal.returns-clause-room
returns-clause-room g c = search rules
