use Rattle.std.proofs.Common.{arith}
use Rattle.scan_core.proofs.Sounding.{frames_kept}
use Rattle.scan_core.proofs.frames.Frames.is_free.Goals as goal

pub contains-requires : goal.contains-requires
contains-requires c = omega (arith, c.requires, frames_kept c.self.inside c.self.invariant c.self.view_is, c.self.invariant.free_room)
