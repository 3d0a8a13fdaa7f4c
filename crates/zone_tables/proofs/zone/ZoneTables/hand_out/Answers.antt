use Rattle.std.proofs.Common.{◌∙◌}
use Rattle.state_core.specs.HandingOut.{block_taken}
use Rattle.state_core.proofs.Facts.{spare}
use Rattle.zone_tables.proofs.Facts.{is_sound, Becomes}
use Rattle.zone_tables.proofs.BlockFrames as blocks
use Rattle.zone_tables.proofs.zone.ZoneTables.hand_out.Given.{Over}
use Rattle.zone_tables.proofs.zone.ZoneTables.hand_out.Goals as goal
use Rattle.zone_tables.proofs.zone.ZoneTables.hand_out.Goals.{After-note}

pub hold-requires : goal.hold-requires
hold-requires g c =
    blocks.run_seen c.self.inside.frames.states c.args.self.now (is_sound c.self.view_is c.self.invariant).frames c.args.order c.args.first ∙ c.requires.run

pub take-requires-clause-none : goal.take-requires-clause-none
take-requires-clause-none g c =
    blocks.take_none c.self.inside c.args.self.now (is_sound c.self.view_is c.self.invariant) c.self.view_is c.args.first c.args.order c.requires.run

taken : {g : Over} (c : After-note g) → Becomes (record c.self.inside { frames = c.hold.new.self; handed_out = c.take.new.self; cleared = c.hand_out.new.self; history = c.note.new.self }) (block_taken c.args.self.now c.args.first c.args.order)
taken c =
    blocks.take_holds c.self.inside c.args.self.now (is_sound c.self.view_is c.self.invariant) c.self.view_is c.args.first c.args.order c.requires.run
    (spare c.args.self.now c.requires.room) c.take.ensures.low c.take.ensures.high c.hold.ensures c.take.ensures.set c.hand_out.ensures c.note.ensures

pub invariant_of-self : goal.invariant_of-self
invariant_of-self g c = (taken c).0

pub returns-clause-step : goal.returns-clause-step
returns-clause-step g c = (taken c).1

pub returns-clause-valid : goal.returns-clause-valid
returns-clause-valid g c = (invariant_of-self g c).valid
