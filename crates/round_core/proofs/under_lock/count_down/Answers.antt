use Rattle.std.proofs.Common.{rules}
use Rattle.round_core.proofs.under_lock.count_down.Goals as goal

pub returns-clause-more : goal.returns-clause-more
returns-clause-more c = search rules
