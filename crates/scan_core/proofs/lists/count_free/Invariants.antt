use Rattle.std.proofs.Common.{◌≡◌, ◌+◌, ◌≤◌}
use Rattle.frame_core.specs.Below.{count_below}
use Rattle.scan_core.specs.Frames.{free_at}
use Rattle.scan_core.proofs.lists.count_free.Given as goal

abbrev pub invariant-loop-k : goal.invariant-loop-k
invariant-loop-k l = record {
  so_far : l.free ≡ count_below (λ k. free_at l.frames (l.first + k)) l.k;
  few : l.free ≤ l.k;
}
