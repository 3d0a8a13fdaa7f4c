use Rattle.std.proofs.Common.{◌≡◌, ◌+◌, ◌++◌, ◌≤◌, length}
use Rattle.std.specs.VecDeque.{deque_capacity}
use Rattle.round_core.proofs.scanner.put_in_front.Given as goal

abbrev pub invariant-loop-page : goal.invariant-loop-page
invariant-loop-page l = record {
  pages : l.batch.items ++ l.pages.items ≡ l.fn.batch.items ++ l.fn.pages.items;
  places : length l.pages.items + length l.batch.items ≤ deque_capacity l.pages;
  room : deque_capacity l.pages ≡ deque_capacity l.fn.pages;
}

abbrev pub decreases-loop-page : goal.decreases-loop-page
decreases-loop-page l = length l.batch.items
