use Rattle.std.proofs.Common.{◌≡◌, ◌+◌, length}
use Rattle.std.specs.VecDeque.{deque_capacity}
use Rattle.state_core.specs.Valid.{IsValidZone}
use Rattle.machine_core.proofs.Closing.{IsClosing}
use Rattle.machine_core.proofs.ending.put_all_back_in.Given as goal

abbrev pub invariant-loop-page : goal.invariant-loop-page
invariant-loop-page g l = record {
  closing : IsClosing l.zone l.waiting.items l.count l.fn.zone l.fn.waiting.items;
  valid : IsValidZone l.zone;
  capacity : deque_capacity l.waiting ≡ deque_capacity l.fn.waiting;
  seat : l.ends ≡ record l.fn.ends { back = l.fn.ends.back + l.count };
}

abbrev pub decreases-loop-page : goal.decreases-loop-page
decreases-loop-page g l = length l.waiting.items
