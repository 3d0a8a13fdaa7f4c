use Rattle.std.proofs.Common.{◌≡◌, []}
use Rattle.worker_threads.proofs.worker.work.Given as goal

abbrev pub invariant-loop : goal.invariant-loop
invariant-loop g l = l.hands.pages ≡ []
