use Rattle.std.proofs.Common.{◌≡◌, ◌+◌, ◌≤◌, All, vec_len, vec_capacity}
use Rattle.worker_threads.specs.Hands.{AreEmpty}
use Rattle.worker_threads.proofs.worker.Hands.of_workers.Given as goal

abbrev pub invariant-loop-worker : goal.invariant-loop-worker
invariant-loop-worker g l = record {
  count : vec_len l.hands + l.first ≡ l.worker;
  room : l.workers ≤ vec_capacity l.hands + l.first;
  empty : All AreEmpty l.hands.items;
}
