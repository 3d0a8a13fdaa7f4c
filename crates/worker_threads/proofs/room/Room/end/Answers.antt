use Rattle.worker_threads.proofs.KeptFacts.{keeps_over}
use Rattle.worker_threads.proofs.Rooms.{room_over}
use Rattle.worker_threads.proofs.room.Room.end.Goals as goal

pub invariant_of-self : goal.invariant_of-self
invariant_of-self g c = (room_over _ _ _ _ _ c.self.invariant.0, keeps_over _ c.self.invariant.1)
