use Rattle.std.proofs.Common.{rules}
use Rattle.round_core.proofs.copier.copy_page.Goals as goal

pub returns-clause-copies : goal.returns-clause-copies
returns-clause-copies c = search rules
