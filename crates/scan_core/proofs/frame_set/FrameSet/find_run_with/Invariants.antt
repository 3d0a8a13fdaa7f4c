use Rattle.std.proofs.Common.{ℕ, ◌<◌, ◌≤◌}
use Rattle.std.specs.FinSet as set
use Rattle.scan_core.specs.FreeRuns.{free_in_run}
use Rattle.scan_core.proofs.frame_set.FrameSet.find_run_with.Given as goal

abbrev pub invariant-loop-run : goal.invariant-loop-run
invariant-loop-run l = (k : ℕ) → l.from ≤ k → k < l.run → free_in_run (set.contains l.self.members) l.order k < l.least
