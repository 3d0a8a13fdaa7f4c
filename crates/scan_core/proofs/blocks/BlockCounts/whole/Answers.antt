use Rattle.std.proofs.Common.{rules, ◌≡◌, ◌∙◌, ℕ, List, ap, arith}
use Rattle.frame_core.specs.Below.{count_below}
use Rattle.scan_core.specs.FrameCounts.{is_all_counted}
use Rattle.scan_core.proofs.blocks.BlockCounts.whole.Goals as goal

pub returns : goal.returns
returns c =
    let all : c.loop-block.block ≡ 8 = omega arith in
    record {
      count = c.loop-block.invariant.so_far ∙ ap (count_below (is_all_counted c.self.inside.counts)) all
          ∙ ap (λ (counts : List ℕ). count_below (is_all_counted counts) 8) c.self.view_is;
    }

pub loop-block-preserved : goal.loop-block-preserved
loop-block-preserved c = search rules
