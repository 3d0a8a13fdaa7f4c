use Rattle.std.proofs.Common.{◌∙◌, ap}
use Rattle.std.specs.FinSet as set
use Rattle.scan_core.specs.FrameSet.{FrameNumbers}
use Rattle.frame_core.specs.Below.{count_below}
use Rattle.scan_core.proofs.frame_set.FrameSet.count.Goals as goal

pub returns : goal.returns
returns c = c.self.invariant.counts.all ∙ ap (λ (s : FrameNumbers). count_below (set.contains s.members) s.bound) c.self.view_is
