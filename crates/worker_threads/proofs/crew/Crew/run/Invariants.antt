use Rattle.worker_threads.specs.Hands.{AreEmpty}
use Rattle.worker_threads.proofs.crew.Crew.run.Given as goal

abbrev pub invariant-loop : goal.invariant-loop
invariant-loop g l = AreEmpty l.hands
