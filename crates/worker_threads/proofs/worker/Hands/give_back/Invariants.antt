use Rattle.std.proofs.Common.{◌≡◌, ◌≤◌, ◌<◌, length, true}
use Rattle.std.specs.VecDeque.{deque_capacity}
use Rattle.worker_threads.specs.Working.{all_committed}
use Rattle.worker_threads.proofs.worker.Hands.give_back.Given as goal

abbrev pub invariant-loop-copied : goal.invariant-loop-copied
invariant-loop-copied g l = record {
  committed : l.whole ≡ true → all_committed l.room l.self-inside.copies.items ≡ all_committed l.fn.room l.fn.self.copies;
  pages : l.self-inside.pages.items ≡ l.fn.self.pages;
  few : length l.self-inside.pages.items ≤ 32;
  room : (32 ≤ deque_capacity l.self-inside.pages) × (32 ≤ deque_capacity l.self-inside.copies);
  worker : l.self-inside.worker ≡ l.fn.self.worker;
  number : l.self-inside.worker < 64;
}

abbrev pub decreases-loop-copied : goal.decreases-loop-copied
decreases-loop-copied g l = length l.self-inside.copies.items
