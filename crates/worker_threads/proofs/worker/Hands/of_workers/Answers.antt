use Rattle.std.proofs.Common.{All, arith, subst, sym}
use Rattle.std.proofs.lemmas.List.Elements.{All-push}
use Rattle.worker_threads.specs.Hands.{AreEmpty}
use Rattle.worker_threads.proofs.worker.Hands.of_workers.Goals as goal

pub loop-worker-preserved : goal.loop-worker-preserved
loop-worker-preserved g c = record {
  count = omega (arith, c.loop-worker.invariant.count, c.push_reserved.ensures.len);
  room = omega (arith, c.loop-worker.invariant.room, c.push_reserved.ensures.capacity);
  empty = subst (All AreEmpty) (sym c.push_reserved.ensures.items) (All-push AreEmpty c.loop-worker.hands.items c.in_ok-new.field-0 c.loop-worker.invariant.empty c.in_ok-new.ensures);
}
