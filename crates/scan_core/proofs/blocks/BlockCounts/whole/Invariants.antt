use Rattle.std.proofs.Common.{◌≡◌, ◌≤◌}
use Rattle.frame_core.specs.Below.{count_below}
use Rattle.scan_core.specs.FrameCounts.{is_all_counted}
use Rattle.scan_core.proofs.blocks.BlockCounts.whole.Given as goal

abbrev pub invariant-loop-block : goal.invariant-loop-block
invariant-loop-block l = record { so_far : l.whole ≡ count_below (is_all_counted l.self-inside.counts) l.block; few : l.whole ≤ l.block }
