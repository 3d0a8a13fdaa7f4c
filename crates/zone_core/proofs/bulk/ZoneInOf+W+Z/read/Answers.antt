use Rattle.std.proofs.Common.{length}
use Rattle.zone_core.specs.Books.{AreBooks}
use Rattle.zone_core.proofs.StaysBooked.{booked_loaded_all, either_way, first_left}
use Rattle.zone_core.proofs.bulk.ZoneInOf+W+Z.read.Goals as goal

pub invariant_of-self : goal.invariant_of-self
invariant_of-self g c =
    let left = c.read.ensures in (
      either_way (AreBooks _ _ _) c.read.result (first_left _ _ c.read.result left.err) left.ok c.self.invariant.0
          (booked_loaded_all c.args.client c.self.inside.bare c.args.address c.args.from (length c.args.values.now) c.self.invariant.2.fingers.begun c.self.invariant.0),
      c.self.invariant.1,
      left.valid,
    )

pub returns-clause-met : goal.returns-clause-met
returns-clause-met g c = rw (← c.self.view_is) c.read.ensures.met
