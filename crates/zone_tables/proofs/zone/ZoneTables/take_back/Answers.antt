use Rattle.std.proofs.Common.{ap, is_some}
use Rattle.state_core.specs.HandingOut.{block_given}
use Rattle.state_core.proofs.Facts.{spare}
use Rattle.zone_tables.proofs.Facts.{is_sound, Becomes}
use Rattle.zone_tables.proofs.BlockFrames as blocks
use Rattle.zone_tables.proofs.BlockFrames.{order_held}
use Rattle.zone_tables.proofs.zone.ZoneTables.take_back.Given.{Over}
use Rattle.zone_tables.proofs.zone.ZoneTables.take_back.Goals as goal
use Rattle.zone_tables.proofs.zone.ZoneTables.take_back.Goals.{After-note}

pub release-requires : goal.release-requires
release-requires g c =
    let sound = is_sound c.self.view_is c.self.invariant in
    let held = order_held _ c.args.order c.requires.held in record { block = blocks.give_block c.self.inside c.args.self.now sound c.self.view_is c.args.first c.args.order held c.requires.here; huge = blocks.give_huge c.self.inside c.args.self.now sound c.self.view_is c.args.first c.args.order held c.requires.here }

pub give-requires : goal.give-requires
give-requires g c =
    ap is_some (blocks.give_here c.self.inside c.args.self.now (is_sound c.self.view_is c.self.invariant) c.self.view_is c.args.first c.args.order (order_held _ c.args.order c.requires.held) c.requires.here)

given : {g : Over} (c : After-note g) → Becomes (record c.self.inside { frames = c.release.new.self; handed_out = c.give.new.self; history = c.note.new.self }) (block_given c.args.self.now c.args.first c.args.order)
given c =
    blocks.give_holds c.self.inside c.args.self.now (is_sound c.self.view_is c.self.invariant) c.self.view_is c.args.first c.args.order (order_held _ c.args.order c.requires.held) c.requires.here
    (spare c.args.self.now c.requires.room) c.release.ensures c.give.ensures c.note.ensures

pub invariant_of-self : goal.invariant_of-self
invariant_of-self g c = (given c).0

pub returns-clause-step : goal.returns-clause-step
returns-clause-step g c = (given c).1

pub returns-clause-valid : goal.returns-clause-valid
returns-clause-valid g c = (invariant_of-self g c).valid
