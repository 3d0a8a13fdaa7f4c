use Rattle.std.proofs.Common.{◌≡◌, ◌+◌, ◌≤◌}
use Rattle.frame_core.specs.Below.{count_below}
use Rattle.scan_core.specs.Frames.{free_at}
use Rattle.scan_core.proofs.blocks.free_in_block.Given as goal

abbrev pub invariant-loop-k : goal.invariant-loop-k
invariant-loop-k l = record {
  so_far : l.count ≡ count_below (λ k. free_at l.frames (l.first + k)) l.k;
  few : l.count ≤ l.k;
}
