use Rattle.std.proofs.Common.{◌∙◌, ap, length, arith}
use Rattle.frame_core.specs.Below.{some_below}
use Rattle.scan_core.specs.Frames.{Frames}
use Rattle.scan_core.specs.Pairs.{is_stuck}
use Rattle.scan_core.proofs.Sounding.{frames_kept, stuck_by_counts, stuck_frames, kept_length}
use Rattle.scan_core.proofs.frames.Frames.is_any_stuck.Goals as goal

pub has_some_unmarked-requires : goal.has_some_unmarked-requires
has_some_unmarked-requires c = omega (arith, c.requires, stuck_frames c.self.inside c.self.invariant, kept_length c.self.inside c.self.invariant, frames_kept c.self.inside c.self.invariant c.self.view_is)

pub returns : goal.returns
returns c =
    c.has_some_unmarked.ensures ∙ stuck_by_counts c.self.inside c.self.invariant c.args.marks.now
    ∙ ap (λ (frames : Frames). some_below (is_stuck frames.states frames.movable c.args.marks.now) (length frames.states)) c.self.view_is
