use Rattle.std.proofs.Common.{◌∙◌, ap, not, IsSome, refl, subst}
use Rattle.worker_threads.specs.Kept.{IsRoom}
use Rattle.worker_threads.specs.Rooms.{Room}
use Rattle.worker_threads.proofs.Rooms.{room_settled}
use Rattle.worker_threads.proofs.room.Room.settled.Goals as goal

pub returns-clause-settled : goal.returns-clause-settled
returns-clause-settled g c =
    let settled = c.if-not-is_settled.ensures in
    let stopped = c.is_none.ensures ∙ ap not c.if-is_none.false in
    room_settled _ _ _ _ c.args.self.now (subst (IsRoom _ _ _ _) c.self.view_is c.self.invariant.0) (subst (λ (r : Room). IsSome r.round.stopped) c.self.view_is stopped)
    (settled.none.0 refl) (settled.once refl) (settled.hands refl) c.self.inside.round (ap (λ (r : Room). r.round) c.self.view_is)
