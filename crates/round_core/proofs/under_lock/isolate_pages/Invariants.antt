use Rattle.std.proofs.Common.{◌≡◌, ◌+◌, ◌-◌, length}
use Rattle.std.specs.VecDeque.{deque_capacity}
use Rattle.frame_core.specs.Serials.{HasSerialsFrom}
use Rattle.round_core.specs.Scanning.{HasMore, limit_at}
use Rattle.round_core.proofs.under_lock.isolate_pages.Given as goal

abbrev pub invariant-loop-room : goal.invariant-loop-room
invariant-loop-room g l = record {
  keeps : g.K.Keeping.keeps_scanning l.room;
  serials : HasSerialsFrom l.fn.scan.count l.pages.items;
  count : l.scan.count ≡ l.fn.scan.count + length l.pages.items;
  rounds : l.scan.rounds ≡ l.fn.scan.rounds;
  room : deque_capacity l.pages ≡ deque_capacity l.fn.pages;
  limit : limit_at l.scan.count l.left ≡ limit_at l.fn.scan.count l.fn.left;
  left : HasMore l.left;
}

abbrev pub decreases-loop-room : goal.decreases-loop-room
decreases-loop-room g l = deque_capacity l.pages - length l.pages.items
