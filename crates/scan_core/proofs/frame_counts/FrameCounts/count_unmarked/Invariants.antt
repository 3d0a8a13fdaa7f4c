use Rattle.std.proofs.Common.{◌≡◌, ◌*◌, ◌≤◌}
use Rattle.frame_core.specs.Below.{sum_below}
use Rattle.scan_core.specs.FrameCounts.{unmarked_count}
use Rattle.scan_core.proofs.frame_counts.FrameCounts.count_unmarked.Given as goal

abbrev pub invariant-loop-block : goal.invariant-loop-block
invariant-loop-block l = record {
  so_far : l.frames ≡ sum_below (unmarked_count l.marks l.self) l.block;
  most : l.frames ≤ 512 * l.block;
}
