use Rattle.std.proofs.Common.{◌≡◌, ℕ, ◌^◌, Bool, true}
use Rattle.std.specs.FinSet as set
use Rattle.scan_core.specs.WholeRuns.{Fills, HasWholeRuns, IsOpen}
use Rattle.scan_core.proofs.HeapSteps.{IsAt, IsStale}
use Rattle.scan_core.proofs.whole_runs.WholeRuns.insert.Given as goal

abbrev pub invariant-loop-self : goal.invariant-loop-self
invariant-loop-self l = record {
  sound : IsOpen l.self;
  blocks : l.self.blocks ≡ l.fn.self.blocks;
  at : IsAt l.self.blocks l.number l.halvings;
  stale : (p r : ℕ → Bool) → HasWholeRuns l.fn.self p → Fills p r l.fn.first (2 ^ l.fn.order) → IsStale l.self.blocks r (set.contains l.self.numbers.members) l.number (2 ^ l.halvings) true;
}

abbrev pub decreases-loop-self : goal.decreases-loop-self
decreases-loop-self l = l.number
