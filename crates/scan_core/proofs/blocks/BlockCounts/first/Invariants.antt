use Rattle.std.proofs.Common.{◌≡◌, ℕ, ◌<◌, false}
use Rattle.scan_core.specs.FrameCounts.{is_all_counted}
use Rattle.scan_core.proofs.blocks.BlockCounts.first.Given as goal

abbrev pub invariant-loop-block : goal.invariant-loop-block
invariant-loop-block l = (k : ℕ) → k < l.block → is_all_counted l.self-inside.counts k ≡ false
