use Rattle.zone_core.proofs.StaysBooked.{booked_made}
use Rattle.zone_core.proofs.blocks.ZoneInOf+W+Z.give_order.Goals as goal

pub invariant_of-self : goal.invariant_of-self
invariant_of-self g c = (booked_made c.give_order.ensures.made c.self.invariant.2 c.self.invariant.0, c.self.invariant.1, c.give_order.ensures.made.valid)
