use Rattle.std.proofs.Common.{◌∙◌, ap, length, arith}
use Rattle.frame_core.specs.Below.{count_below}
use Rattle.scan_core.specs.Frames.{Frames}
use Rattle.scan_core.specs.Pairs.{is_target}
use Rattle.scan_core.proofs.Sounding.{bound_is, vacant_by_set}
use Rattle.scan_core.proofs.frames.Frames.vacant.Goals as goal

pub count_unmarked-requires : goal.count_unmarked-requires
count_unmarked-requires c = omega (arith, c.requires, bound_is c.self.inside c.self.invariant, ap (λ (frames : Frames). length frames.states) c.self.view_is)

pub returns : goal.returns
returns c =
    c.count_unmarked.ensures ∙ vacant_by_set c.self.inside c.self.invariant c.args.marks.now
    ∙ ap (λ (frames : Frames). count_below (is_target frames.states c.args.marks.now) (length frames.states)) c.self.view_is
