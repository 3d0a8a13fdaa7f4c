use Rattle.std.proofs.Common.{rules}
use Rattle.round_core.proofs.copier.at_end.Goals as goal

pub returns-clause-marked : goal.returns-clause-marked
returns-clause-marked g c = search rules
