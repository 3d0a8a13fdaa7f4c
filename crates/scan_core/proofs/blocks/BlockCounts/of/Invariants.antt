use Rattle.std.proofs.Common.{◌≡◌, ℕ, ◌<◌, length}
use Rattle.std.specs.Prelude.{slice_get, Some}
use Rattle.scan_core.specs.Frames.{free_in_block}
use Rattle.scan_core.proofs.blocks.BlockCounts.of.Given as goal

abbrev pub invariant-loop-block : goal.invariant-loop-block
invariant-loop-block l = record {
  eight : length l.counts ≡ 8;
  each : (k : ℕ) → k < l.block → slice_get l.counts k ≡ Some (free_in_block l.frames k);
}
