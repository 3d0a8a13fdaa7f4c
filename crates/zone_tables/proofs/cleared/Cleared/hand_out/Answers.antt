use Rattle.std.proofs.Common.{false}
use Rattle.std.specs.Prelude.{slice_set}
use Rattle.zone_tables.proofs.cleared.Cleared.hand_out.Goals as goal

pub returns : goal.returns
returns c = λ i. slice_set (c.self.view_is i) (c.get.ensures.value i) false
