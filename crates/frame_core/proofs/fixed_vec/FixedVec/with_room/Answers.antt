use Rattle.std.proofs.Common.{rules}
use Rattle.frame_core.proofs.fixed_vec.FixedVec.with_room.Goals as goal

pub returns : goal.returns
returns g c = search rules
