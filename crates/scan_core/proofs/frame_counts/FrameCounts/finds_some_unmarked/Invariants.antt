use Rattle.std.proofs.Common.{◌≡◌, ℕ, ◌<◌, false, not, slice_index}
use Rattle.std.specs.Prelude.{◌&&◌, nat_lt}
use Rattle.scan_core.specs.Frames.{true_at}
use Rattle.scan_core.proofs.frame_counts.FrameCounts.finds_some_unmarked.Given as goal

abbrev pub invariant-loop-block : goal.invariant-loop-block
invariant-loop-block l = (k : ℕ) → k < l.block → (not (true_at l.marks k) && nat_lt 0 (slice_index l.self k)) ≡ false
