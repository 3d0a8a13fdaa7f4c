use Rattle.zone_core.proofs.StaysBooked.{booked_made}
use Rattle.zone_core.proofs.zone.ZoneInOf+W+Z.load.Goals as goal

pub invariant_of-self : goal.invariant_of-self
invariant_of-self g c = (booked_made c.load.ensures.made c.self.invariant.2 c.self.invariant.0, c.self.invariant.1, c.load.ensures.made.valid)

pub returns-clause-met : goal.returns-clause-met
returns-clause-met g c = rw (← c.self.view_is) c.load.ensures.met
