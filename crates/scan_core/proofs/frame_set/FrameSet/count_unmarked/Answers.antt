use Rattle.std.proofs.Common.{◌∙◌, ap, not, length, arith}
use Rattle.std.specs.Prelude.{◌&&◌}
use Rattle.std.specs.FinSet as set
use Rattle.scan_core.specs.FrameSet.{FrameNumbers}
use Rattle.frame_core.specs.Below.{count_below}
use Rattle.scan_core.specs.Pairs.{is_marked}
use Rattle.scan_core.proofs.FrameSets.{unmarked_sum}
use Rattle.scan_core.proofs.frame_set.FrameSet.count_unmarked.Goals as goal

pub count_unmarked-requires : goal.count_unmarked-requires
count_unmarked-requires c = omega (arith, c.requires, ap (λ (s : FrameNumbers). s.bound) c.self.view_is)

pub returns : goal.returns
returns c =
    c.count_unmarked.ensures
    ∙ unmarked_sum (set.contains c.self.inside.numbers.members) c.args.marks.now c.self.inside.blocks c.self.invariant.counts.each (length c.self.inside.blocks) (omega arith)
    ∙ ap (λ (s : FrameNumbers). count_below (λ frame. not (is_marked c.args.marks.now frame) && set.contains s.members frame) s.bound) c.self.view_is
