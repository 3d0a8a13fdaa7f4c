use Rattle.std.proofs.Common.{◌≡◌, ◌*◌, ◌/◌, ◌∙◌, length, ap, arith}
use Rattle.std.specs.FinSet as set
use Rattle.frame_core.specs.Below.{count_below}
use Rattle.frame_core.proofs.Searches.{count_same}
use Rattle.scan_core.specs.FrameCounts.{is_all_counted}
use Rattle.scan_core.specs.FrameSet.{FrameNumbers, all_of_block}
use Rattle.scan_core.proofs.FrameSets.{full_by_counts}
use Rattle.scan_core.proofs.frame_set.FrameSet.whole_blocks.Goals as goal

pub returns : goal.returns
returns c =
    let blocks : length c.self.inside.blocks ≡ 512 * length c.self.inside.blocks / 512 = omega arith in
    c.whole.ensures
    ∙ count_same (is_all_counted c.self.inside.blocks) (all_of_block (set.contains c.self.inside.numbers.members)) (length c.self.inside.blocks) (full_by_counts (set.contains c.self.inside.numbers.members) c.self.inside.blocks c.self.invariant.counts.each)
    ∙ ap (count_below (all_of_block (set.contains c.self.inside.numbers.members))) blocks
    ∙ ap (λ (s : FrameNumbers). count_below (all_of_block (set.contains s.members)) (s.bound / 512)) c.self.view_is
