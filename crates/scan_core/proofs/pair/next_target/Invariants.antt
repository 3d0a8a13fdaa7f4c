use Rattle.std.proofs.Common.{◌≡◌, ℕ, ◌<◌, ◌≤◌, false}
use Rattle.std.specs.Prelude.{nat_lt, ◌&&◌}
use Rattle.scan_core.specs.Pairs.{is_target}
use Rattle.scan_core.proofs.pair.next_target.Given as goal

abbrev pub invariant-loop-number : goal.invariant-loop-number
invariant-loop-number l = record {
  above : (k : ℕ) → l.number ≤ k → k < l.fn.fingers.free → (nat_lt l.source k && is_target l.frames l.marked k) ≡ false;
  high : l.number ≤ l.fn.fingers.free;
}

abbrev pub decreases-loop-number : goal.decreases-loop-number
decreases-loop-number l = l.number
