use Rattle.std.proofs.Common.{length, ap, arith}
use Rattle.scan_core.specs.Frames.{Frames}
use Rattle.scan_core.proofs.Sounding.{frames_kept}
use Rattle.scan_core.proofs.frames.Frames.len.Goals as goal

pub returns : goal.returns
returns c =
    let same = frames_kept c.self.inside c.self.invariant c.self.view_is in
    record {
      len = omega (arith, same, c.len.ensures);
      whole = omega (arith, same, c.len.ensures, c.self.invariant.whole);
      some = omega (arith, c.len.ensures, c.self.invariant.whole, c.self.invariant.some);
      levels = omega (arith, c.len.ensures, c.self.invariant.few);
      movable = omega (arith, ap (λ (frames : Frames). length frames.movable) c.self.view_is, same, c.self.invariant.movable);
    }
