use Rattle.zone_core.proofs.StaysBooked.{booked_made}
use Rattle.zone_core.proofs.blocks.ZoneInOf+W+Z.take_order.Goals as goal

pub invariant_of-self : goal.invariant_of-self
invariant_of-self g c = (booked_made c.take_order.ensures.made c.self.invariant.2 c.self.invariant.0, c.self.invariant.1, c.take_order.ensures.made.valid)
