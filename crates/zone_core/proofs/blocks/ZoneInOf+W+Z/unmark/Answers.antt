use Rattle.zone_core.proofs.StaysBooked.{booked_made}
use Rattle.zone_core.proofs.blocks.ZoneInOf+W+Z.unmark.Goals as goal

pub invariant_of-self : goal.invariant_of-self
invariant_of-self g c = (booked_made c.unmark.ensures.made c.self.invariant.2 c.self.invariant.0, c.self.invariant.1, c.unmark.ensures.made.valid)
