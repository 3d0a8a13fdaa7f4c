use Rattle.std.proofs.Common.{◌≡◌, ◌+◌, ◌*◌, ◌≤◌, ◌<◌, length}
use Rattle.std.specs.VecDeque.{deque_capacity}
use Rattle.worker_threads.proofs.worker.Hands.take_pages.Given as goal

abbrev pub invariant-loop-place : goal.invariant-loop-place
invariant-loop-place g l = record {
  count : l.first + length l.self-inside.pages.items ≡ l.place;
  isolated : l.room.round.isolated ≡ l.fn.room.round.isolated + length l.self-inside.pages.items;
  copies : l.self-inside.copies.items ≡ l.fn.self.copies;
  room : (32 ≤ deque_capacity l.self-inside.pages) × (32 ≤ deque_capacity l.self-inside.copies);
  worker : l.self-inside.worker ≡ l.fn.self.worker;
  number : l.self-inside.worker < 64;
  first : l.first ≡ l.self-inside.worker * 32;
}
