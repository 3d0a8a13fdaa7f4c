use Rattle.std.proofs.Common.{◌≡◌, ℕ, ◌<◌, false}
use Rattle.scan_core.specs.Runs.{is_run}
use Rattle.scan_core.proofs.lists.first_run.Given as goal

abbrev pub invariant-loop-first : goal.invariant-loop-first
invariant-loop-first l = (k : ℕ) → k < l.first → is_run l.frames l.order k ≡ false
