use Rattle.std.proofs.Common.{◌≡◌, ◌∙◌, subst, sym}
use Rattle.worker_threads.specs.Rooms.{Room, in_hand}
use Rattle.worker_threads.proofs.Rooms.{counted_out, settled}
use Rattle.worker_threads.proofs.room.Room.is_settled.Goals as goal

pub returns-clause-hands : goal.returns-clause-hands
returns-clause-hands g c so =
    subst (λ (r : Room). in_hand r.kept ≡ 0) c.self.view_is
    (settled c.self.inside.zone c.self.invariant.0.valid c.self.inside.kept.items c.self.invariant.0.halves
    (counted_out c.self.inside.zone c.audit.result c.audit.ensures.ok (sym c.is_ok.ensures.value ∙ so)))
