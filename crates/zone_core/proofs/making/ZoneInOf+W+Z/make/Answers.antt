use Rattle.zone_core.proofs.StaysBooked.{booked_made}
use Rattle.zone_core.proofs.making.ZoneInOf+W+Z.make.Goals as goal

pub invariant_of-self : goal.invariant_of-self
invariant_of-self g c =
    let made = c.make.ensures.made in
    (booked_made made c.self.invariant.2 c.self.invariant.0, c.self.invariant.1, made.valid)

pub returns-clause-met : goal.returns-clause-met
returns-clause-met g c = rw (← c.self.view_is) c.make.ensures.met
