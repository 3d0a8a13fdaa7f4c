use Rattle.std.proofs.Common.{◌∙◌, ap}
use Rattle.scan_core.specs.Frames.{Frames, free_frames}
use Rattle.scan_core.proofs.Sounding.{free_counted}
use Rattle.scan_core.proofs.frames.Frames.free.Goals as goal

pub returns : goal.returns
returns c = c.count.ensures ∙ free_counted c.self.inside c.self.invariant ∙ ap (λ (frames : Frames). free_frames frames.states) c.self.view_is
