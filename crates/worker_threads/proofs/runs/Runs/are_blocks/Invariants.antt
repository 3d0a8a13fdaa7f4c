use Rattle.std.proofs.Common.{◌≡◌, ◌<◌, ℕ, true}
use Rattle.std.specs.Prelude.{get_or}
use Rattle.state_core.specs.ZoneState.{frame_count}
use Rattle.state_core.specs.HandingOut.{is_block_start}
use Rattle.worker_threads.proofs.runs.Runs.are_blocks.Given as goal

abbrev pub invariant-loop-place : goal.invariant-loop-place
invariant-loop-place g l = (k d : ℕ) → k < l.place → is_block_start (frame_count l.fn.zone) l.fn.self.order (get_or l.fn.self.left k d) ≡ true
