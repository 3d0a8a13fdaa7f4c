use Rattle.zone_core.proofs.StaysBooked.{booked_made}
use Rattle.zone_core.proofs.zone.ZoneInOf+W+Z.map_at.Goals as goal

pub invariant_of-self : goal.invariant_of-self
invariant_of-self g c = (booked_made c.map_at.ensures.made c.self.invariant.2 c.self.invariant.0, c.self.invariant.1, c.map_at.ensures.made.valid)

pub invariant_of-self-2 : goal.invariant_of-self-2
invariant_of-self-2 g c = (booked_made c.map_at.ensures.made c.self.invariant.2 c.self.invariant.0, c.self.invariant.1, c.map_at.ensures.made.valid)
