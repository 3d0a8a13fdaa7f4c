use Rattle.std.proofs.Common.{◌≡◌, ℕ, ◌^◌, Bool, false}
use Rattle.std.specs.FinSet as set
use Rattle.scan_core.specs.WholeRuns.{Empties, HasWholeRuns, IsOpen}
use Rattle.scan_core.proofs.HeapSteps.{AllMembers, IsAt, IsStale}
use Rattle.scan_core.proofs.whole_runs.WholeRuns.remove.Given as goal

abbrev pub invariant-loop-self : goal.invariant-loop-self
invariant-loop-self l = record {
  sound : IsOpen l.self;
  blocks : l.self.blocks ≡ l.fn.self.blocks;
  at : IsAt l.self.blocks l.number l.halvings;
  stale : (p r : ℕ → Bool) → HasWholeRuns l.fn.self p → Empties p r l.fn.first (2 ^ l.fn.order) → IsStale l.self.blocks r (set.contains l.self.numbers.members) l.number (2 ^ l.halvings) false × AllMembers l.self.blocks (set.contains l.self.numbers.members) l.number (2 ^ l.halvings);
}

abbrev pub decreases-loop-self : goal.decreases-loop-self
decreases-loop-self l = l.number
