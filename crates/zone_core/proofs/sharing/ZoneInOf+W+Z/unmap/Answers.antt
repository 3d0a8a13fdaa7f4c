use Rattle.zone_core.proofs.StaysBooked.{booked_made}
use Rattle.zone_core.proofs.sharing.ZoneInOf+W+Z.unmap.Goals as goal

pub invariant_of-self : goal.invariant_of-self
invariant_of-self g c = (booked_made c.unmap.ensures.made c.self.invariant.2 c.self.invariant.0, c.self.invariant.1, c.unmap.ensures.made.valid)
