use Rattle.std.proofs.Common.{◌≡◌, ℕ, ◌≤◌, Some, IfSome, length}
use Rattle.round_core.proofs.under_lock.commit_copies.Given as goal

abbrev pub invariant-loop-copy : goal.invariant-loop-copy
invariant-loop-copy g l = record {
  parts : l.seat.parts ≡ l.fn.seat.parts;
  least : IfSome l.fn.stranger (λ before. (now : ℕ) × (l.stranger ≡ Some now) × (now ≤ before));
  back : g.K.Keeping.unpinned → l.seat.back ≡ l.fn.seat.back;
}

abbrev pub decreases-loop-copy : goal.decreases-loop-copy
decreases-loop-copy g l = length l.copies.items
