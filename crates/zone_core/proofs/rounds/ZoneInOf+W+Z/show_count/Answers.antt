use Rattle.zone_core.proofs.StaysBooked.{seat_counted}
use Rattle.zone_core.proofs.rounds.ZoneInOf+W+Z.show_count.Goals as goal

pub returns-clause-serial : goal.returns-clause-serial
returns-clause-serial g c = rw (← c.self.view_is) (seat_counted c.args.seat.now.count c.args.seat.now.last c.self.invariant.0 c.tell.ensures.total)
