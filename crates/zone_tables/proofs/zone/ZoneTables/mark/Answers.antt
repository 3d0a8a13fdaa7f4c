use Rattle.state_core.specs.Marking.{block_marked}
use Rattle.state_core.proofs.Facts.{spare}
use Rattle.zone_tables.proofs.Facts.{is_sound, Becomes}
use Rattle.zone_tables.proofs.Marks.{with_marks, mark_holds}
use Rattle.zone_tables.proofs.zone.ZoneTables.mark.Given.{Over}
use Rattle.zone_tables.proofs.zone.ZoneTables.mark.Goals as goal
use Rattle.zone_tables.proofs.zone.ZoneTables.mark.Goals.{After-note}

marked : {g : Over} (c : After-note g) → Becomes (with_marks c.self.inside c.set.new.self c.note.new.self) (block_marked c.args.self.now c.args.block)
marked c =
    mark_holds c.self.inside c.args.self.now (is_sound c.self.view_is c.self.invariant) c.self.view_is c.args.block c.requires.within
    (spare c.args.self.now c.requires.room) c.note.new.self c.get.ensures.value c.set.ensures.marked c.note.ensures

pub invariant_of-self : goal.invariant_of-self
invariant_of-self g c = (marked c).0

pub returns-clause-step : goal.returns-clause-step
returns-clause-step g c = (marked c).1

pub returns-clause-valid : goal.returns-clause-valid
returns-clause-valid g c = (invariant_of-self g c).valid
