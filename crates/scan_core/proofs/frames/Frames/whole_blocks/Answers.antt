use Rattle.std.proofs.Common.{◌∙◌, ap}
use Rattle.frame_core.specs.Below.{count_below}
use Rattle.scan_core.specs.Frames.{Frames, blocks_of, is_whole}
use Rattle.scan_core.proofs.Sounding.{whole_by_set}
use Rattle.scan_core.proofs.frames.Frames.whole_blocks.Goals as goal

pub returns : goal.returns
returns c = c.whole_blocks.ensures ∙ whole_by_set c.self.inside c.self.invariant ∙ ap (λ (frames : Frames). count_below (is_whole frames.states) (blocks_of frames.states)) c.self.view_is
