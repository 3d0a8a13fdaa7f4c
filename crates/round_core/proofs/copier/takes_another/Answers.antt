use Rattle.std.proofs.Common.{rules}
use Rattle.round_core.proofs.copier.takes_another.Goals as goal

pub returns-then-has_more-clause-place : goal.returns-then-has_more-clause-place
returns-then-has_more-clause-place g c = search rules
