use Rattle.std.proofs.Common.{◌≡◌, ◌≤◌, None, replicate, vec_capacity}
use Rattle.worker_threads.proofs.compacting_zone.free_places.Given as goal

abbrev pub invariant-loop-place : goal.invariant-loop-place
invariant-loop-place l = record {
  free : l.kept.items ≡ replicate l._place None;
  room : l.count ≤ vec_capacity l.kept;
}
