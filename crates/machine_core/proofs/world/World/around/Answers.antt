use Rattle.std.proofs.Common.{refl, ap, subst}
use Rattle.std.specs.VecDeque.{deque_capacity}
use Rattle.zone_core.specs.Seats.{EndSeat}
use Rattle.state_core.specs.Valid.{IsValidZone}
use Rattle.state_core.specs.Opening.{opened_with}
use Rattle.machine_core.proofs.Closing.{carried_closed}
use Rattle.machine_core.proofs.world.World.around.Goals as goal

pub invariant_of-result : goal.invariant_of-result
invariant_of-result g c =
    let a = c.args in
    rw (c.requires.zone.2, c.in-Ok.ensures.items, c.new.ensures)
    (carried_closed (opened_with g.row.W c.requires.zone.0 a.blocks c.requires.zone.1) a.scan a.ends (subst IsValidZone c.requires.zone.2 c.requires.valid)
    (ap (λ (seat : EndSeat). seat.parts) c.requires.ends) (λ serial. refl) (deque_capacity c.in-Ok.waiting) c.in-Ok.ensures.exact)

pub returns-clause-orderly : goal.returns-clause-orderly
returns-clause-orderly g c = (invariant_of-result g c).orderly

pub returns-clause-ok : goal.returns-clause-ok
returns-clause-ok g c = rw (c.in-Ok.ensures.items, c.new.ensures, c.requires.scan, c.requires.ends)
