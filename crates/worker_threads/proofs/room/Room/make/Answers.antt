use Rattle.worker_threads.proofs.KeptFacts.{keeps_made}
use Rattle.worker_threads.proofs.Rooms.{room_called}
use Rattle.worker_threads.proofs.room.Room.make.Goals as goal

pub invariant_of-self : goal.invariant_of-self
invariant_of-self g c = (
  room_called _ _ _ _ c.args.call c.args.client _ c.make.new.self c.make.result c.self.invariant.0 c.make.ensures.made,
  keeps_made _ c.self.invariant.1 c.args.call c.args.client c.make.new.self c.make.result (g.K.Keeping.calls _ c.self.inside.work c.self.inside.rounds c.self.inside.zone c.args.client c.args.call c.requires.may c.self.invariant.0.valid) c.make.ensures.made,
)
