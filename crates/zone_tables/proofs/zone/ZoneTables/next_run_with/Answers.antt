use Rattle.std.proofs.Common.{ℕ, ◌/◌, ◌^◌, subst}
use Rattle.fewest_core.specs.FewestMoves.{run_count}
use Rattle.scan_core.specs.Frames.{free_at}
use Rattle.scan_core.specs.FreeRuns.{free_in_run, IsNextWith}
use Rattle.scan_core.proofs.FreeRuns.{next_same}
use Rattle.zone_tables.proofs.Facts.{is_sound}
use Rattle.zone_tables.proofs.OpenRuns.{runs_counted}
use Rattle.zone_tables.proofs.zone.ZoneTables.next_run_with.Goals as goal

pub returns : goal.returns
returns g c =
    let sound = is_sound c.self.view_is c.self.invariant in
    next_same _ _ (run_count c.args.self.now (2 ^ c.args.order)) c.args.from c.args.least (runs_counted c.self.inside c.args.self.now sound c.args.order) c.next_run_with.result
    (subst (λ (n : ℕ). IsNextWith (free_in_run (free_at c.self.inside.frames.states) c.args.order) (n / 2 ^ c.args.order) c.args.from c.args.least c.next_run_with.result) sound.frames.count c.next_run_with.ensures)
