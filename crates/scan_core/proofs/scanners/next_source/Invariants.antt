use Rattle.std.proofs.Common.{◌≡◌, ℕ, ◌-◌, ◌<◌, ◌≤◌, false}
use Rattle.std.specs.Prelude.{not, nat_le, ◌&&◌}
use Rattle.std.specs.FinSet as set
use Rattle.scan_core.specs.Pairs.{is_marked}
use Rattle.scan_core.proofs.scanners.next_source.Given as goal

abbrev pub invariant-loop-next : goal.invariant-loop-next
invariant-loop-next l = record {
  low : l.fn.fingers.migrate ≤ l.next;
  before : (k : ℕ) → k < l.next → (nat_le l.fn.fingers.migrate k && (not (is_marked l.marks k) && set.contains l.sources.members k)) ≡ false;
}

abbrev pub decreases-loop-next : goal.decreases-loop-next
decreases-loop-next l = l.fn.fingers.free - l.next
