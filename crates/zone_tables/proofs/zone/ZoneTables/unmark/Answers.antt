use Rattle.state_core.specs.Marking.{block_unmarked}
use Rattle.state_core.proofs.Facts.{spare}
use Rattle.zone_tables.proofs.Facts.{is_sound, Becomes}
use Rattle.zone_tables.proofs.Marks.{with_marks, unmark_holds}
use Rattle.zone_tables.proofs.zone.ZoneTables.unmark.Given.{Over}
use Rattle.zone_tables.proofs.zone.ZoneTables.unmark.Goals as goal
use Rattle.zone_tables.proofs.zone.ZoneTables.unmark.Goals.{After-note}

unmarked : {g : Over} (c : After-note g) → Becomes (with_marks c.self.inside c.set.new.self c.note.new.self) (block_unmarked c.args.self.now c.args.block)
unmarked c =
    unmark_holds c.self.inside c.args.self.now (is_sound c.self.view_is c.self.invariant) c.self.view_is c.args.block c.requires.within
    (spare c.args.self.now c.requires.room) c.note.new.self c.get.ensures.value c.set.ensures.marked c.note.ensures

pub invariant_of-self : goal.invariant_of-self
invariant_of-self g c = (unmarked c).0

pub returns-clause-step : goal.returns-clause-step
returns-clause-step g c = (unmarked c).1

pub returns-clause-valid : goal.returns-clause-valid
returns-clause-valid g c = (invariant_of-self g c).valid
