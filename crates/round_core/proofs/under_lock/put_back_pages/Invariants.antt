use Rattle.std.proofs.Common.{◌≡◌, ◌+◌, length, None}
use Rattle.std.specs.VecDeque.{deque_capacity}
use Rattle.round_core.specs.Counts.{CountsBack}
use Rattle.round_core.specs.PuttingBack.{all_put_back}
use Rattle.round_core.proofs.under_lock.put_back_pages.Given as goal

abbrev pub invariant-loop-page : goal.invariant-loop-page
invariant-loop-page g l = record {
  seat : CountsBack l.fn.seat l.seat;
  -- where the zone refused none, each page is left or was put back
  left : l.stranger ≡ None → length l.pages.items + l.seat.back ≡ l.fn.seat.back + length l.fn.pages.items;
  put_back : l.stranger ≡ None → all_put_back l.room l.pages.items ≡ all_put_back l.fn.room l.fn.pages.items;
  room : deque_capacity l.pages ≡ deque_capacity l.fn.pages;
}

abbrev pub decreases-loop-page : goal.decreases-loop-page
decreases-loop-page g l = length l.pages.items
