use Rattle.std.proofs.Common.{rules}
use Rattle.frame_core.proofs.ghost_list.GhostList.push.Goals as goal

pub returns : goal.returns
returns g c = search rules
