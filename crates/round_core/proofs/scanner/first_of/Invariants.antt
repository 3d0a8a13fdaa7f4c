use Rattle.std.proofs.Common.{◌≡◌, ◌++◌, ◌-◌, ◌≤◌, length}
use Rattle.std.specs.VecDeque.{deque_capacity}
use Rattle.round_core.proofs.scanner.first_of.Given as goal

-- what was taken and what is left are the pages that there were
abbrev pub invariant-loop-pages : goal.invariant-loop-pages
invariant-loop-pages l = record {
  pages : l.fn.pages.items ≡ l.batch.items ++ l.pages.items;
  few : length l.batch.items ≤ l.fn.batch_len;
  room : deque_capacity l.pages ≡ deque_capacity l.fn.pages;
}

abbrev pub decreases-loop-pages : goal.decreases-loop-pages
decreases-loop-pages l = l.fn.batch_len - length l.batch.items
