use Rattle.std.proofs.Common.{◌+◌, ◌≤◌, All, vec_len, vec_capacity}
use Rattle.worker_threads.specs.Hands.{AreEmpty}
use Rattle.worker_threads.proofs.compacting.start_workers.Given as goal

abbrev pub invariant-loop-hands : goal.invariant-loop-hands
invariant-loop-hands g l = record {
  empty : All AreEmpty l.others.items;
  room : vec_len l.threads + vec_len l.others ≤ vec_capacity l.threads;
}

abbrev pub decreases-loop-hands : goal.decreases-loop-hands
decreases-loop-hands g l = vec_len l.others
