use Rattle.std.proofs.Common.{◌≡◌, ℕ, ◌-◌, ◌<◌, ◌≤◌, false}
use Rattle.scan_core.specs.Frames.{leaving_at}
use Rattle.scan_core.proofs.frames.Frames.next_leaving.Given as goal

abbrev pub invariant-loop-next : goal.invariant-loop-next
invariant-loop-next l = record {
  low : l.fn.from ≤ l.next;
  before : (k : ℕ) → l.fn.from ≤ k → k < l.next → leaving_at l.self.states k ≡ false;
}

abbrev pub decreases-loop-next : goal.decreases-loop-next
decreases-loop-next l = l.end - l.next
