use Rattle.std.proofs.Common.{◌≡◌, ◌+◌, ◌≤◌, ◌<◌, ◌++◌, length}
use Rattle.std.specs.VecDeque.{deque_capacity}
use Rattle.worker_threads.specs.Working.{all_copied}
use Rattle.worker_threads.proofs.worker.Hands.copy_all.Given as goal

abbrev pub invariant-loop-page : goal.invariant-loop-page
invariant-loop-page g l = record {
  copied : l.self-inside.copies.items ++ all_copied l.self-inside.pages.items ≡ all_copied l.fn.self.pages;
  few : length l.self-inside.copies.items + length l.self-inside.pages.items ≤ 32;
  room : (32 ≤ deque_capacity l.self-inside.pages) × (32 ≤ deque_capacity l.self-inside.copies);
  worker : l.self-inside.worker ≡ l.fn.self.worker;
  number : l.fn.self.worker < 64;
}

abbrev pub decreases-loop-page : goal.decreases-loop-page
decreases-loop-page g l = length l.self-inside.pages.items
