use Rattle.std.specs.Prelude.{None}
use Rattle.script_core.proofs.Whole.{whole_by_hand}
use Rattle.script_core.proofs.law.replies_are_by_hand.Goals as goal

pub returns : goal.returns
returns c = λ places commands answers after replied none. whole_by_hand places None commands answers after replied none
