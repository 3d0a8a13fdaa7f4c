use Rattle.std.proofs.Common.{◌∙◌, arith}
use Rattle.frame_core.proofs.Searches.{count_most}
use Rattle.state_core.specs.HandingOut.{is_run}
use Rattle.state_core.specs.ZoneState.{frame_count}
use Rattle.zone_tables.proofs.Facts.{is_sound}
use Rattle.zone_tables.proofs.BlockFrames.{runs_seen}
use Rattle.zone_tables.proofs.zone.ZoneTables.count_runs.Goals as goal

pub returns-clause-count : goal.returns-clause-count
returns-clause-count g c =
    c.count_runs.ensures ∙ runs_seen c.self.inside.frames.states c.args.self.now (is_sound c.self.view_is c.self.invariant).frames c.args.order

pub returns-clause-few : goal.returns-clause-few
returns-clause-few g c =
    let sound = is_sound c.self.view_is c.self.invariant in
    let counted = c.count_runs.ensures ∙ runs_seen c.self.inside.frames.states c.args.self.now sound.frames c.args.order in
    omega (arith, counted, count_most (is_run c.args.self.now c.args.order) (frame_count c.args.self.now), sound.valid.size.1)
