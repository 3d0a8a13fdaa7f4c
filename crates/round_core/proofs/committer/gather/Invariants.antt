use Rattle.std.proofs.Common.{◌≡◌, ◌-◌, false, length}
use Rattle.std.specs.VecDeque.{deque_capacity}
use Rattle.hand_core.specs.CopyEnds.{has_ended}
use Rattle.round_core.proofs.committer.gather.Given as goal

abbrev pub invariant-loop-taker : goal.invariant-loop-taker
invariant-loop-taker g l = record { going : has_ended l.taker ≡ false }

abbrev pub decreases-loop-taker : goal.decreases-loop-taker
decreases-loop-taker g l = deque_capacity l.gathered - length l.gathered.items
