use Rattle.zone_core.specs.Books.{AreBooks}
use Rattle.zone_core.proofs.StaysBooked.{booked_stored_all, either_way}
use Rattle.zone_core.proofs.bulk.ZoneInOf+W+Z.write.Goals as goal

pub invariant_of-self : goal.invariant_of-self
invariant_of-self g c =
    let left = c.write.ensures in (
      either_way (AreBooks _ _ _) c.write.result left.err left.ok c.self.invariant.0
          (booked_stored_all c.args.client c.self.inside.bare c.args.address c.args.from c.args.values.now c.self.invariant.2.fingers.begun c.self.invariant.0),
      c.self.invariant.1,
      left.valid,
    )

pub returns-clause-met : goal.returns-clause-met
returns-clause-met g c = rw (← c.self.view_is) c.write.ensures.met
