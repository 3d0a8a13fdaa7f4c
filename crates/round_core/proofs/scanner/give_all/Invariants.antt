use Rattle.std.proofs.Common.{◌≡◌, ◌+◌, ◌++◌, length}
use Rattle.std.specs.VecDeque.{deque_capacity}
use Rattle.frame_core.specs.Serials.{HasSerialsFrom}
use Rattle.round_core.proofs.scanner.give_all.Given as goal

-- what was given and what is left are the pages that there were
abbrev pub invariant-loop-batch : goal.invariant-loop-batch
invariant-loop-batch g l = record {
  serials : HasSerialsFrom (l.giver.base + length l.giver.given) l.pages.items;
  giver : l.giver ≡ record l.fn.giver { given = l.giver.given };
  given : l.giver.given ++ l.pages.items ≡ l.fn.giver.given ++ l.fn.pages.items;
  count : length l.giver.given + length l.pages.items ≡ length l.fn.giver.given + length l.fn.pages.items;
  room : deque_capacity l.pages ≡ deque_capacity l.fn.pages;
}

abbrev pub decreases-loop-batch : goal.decreases-loop-batch
decreases-loop-batch g l = length l.pages.items
