use Rattle.std.proofs.Common.{ap, sym, ◌∙◌}
use Rattle.hand_core.specs.CopyEnds.{copies_in_one}
use Rattle.hand_core.proofs.done_taker.keep.Goals as goal

pub returns-in-Copies-clause-hand : goal.returns-in-Copies-clause-hand
returns-in-Copies-clause-hand c = c.into_iter.ensures.into_iter_gives.0 ∙ ap copies_in_one (sym c.in-Copies.is)
