use Rattle.std.proofs.Common.{◌≡◌, ℕ, ◌<◌, ◌≤◌, false}
use Rattle.std.specs.Prelude.{not, nat_le, ◌&&◌}
use Rattle.std.specs.FinSet as set
use Rattle.scan_core.specs.Pairs.{is_marked}
use Rattle.scan_core.proofs.scanners.highest_target.Given as goal

abbrev pub invariant-loop-above : goal.invariant-loop-above
invariant-loop-above l = record {
  stops : (k : ℕ) → l.above ≤ k → k < l.end → (nat_le l.low k && (not (is_marked l.marks k) && set.contains l.free.members k)) ≡ false;
  high : l.above ≤ l.end;
}

abbrev pub decreases-loop-above : goal.decreases-loop-above
decreases-loop-above l = l.above
