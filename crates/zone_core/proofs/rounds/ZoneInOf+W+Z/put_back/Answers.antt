use Rattle.zone_core.proofs.StaysBooked.{booked_back}
use Rattle.zone_core.proofs.rounds.ZoneInOf+W+Z.put_back.Goals as goal

pub invariant_of-self-2 : goal.invariant_of-self-2
invariant_of-self-2 g c =
    let left = c.in_ok-put_back.ensures in
    (booked_back c.args.isolated.serial c.args.isolated.page.number c.self.invariant.2 c.self.invariant.0 left.ok c.count_back.ensures.book, c.self.invariant.1, left.valid)
