use Rattle.std.proofs.Common.{rules}
use Rattle.round_core.proofs.alone.run_shared.Goals as goal

-- what the lock keeps
pub returns-clause-keeps : goal.returns-clause-keeps
returns-clause-keeps g c = search rules
