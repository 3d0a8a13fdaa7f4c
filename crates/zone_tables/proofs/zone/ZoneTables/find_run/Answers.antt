use Rattle.std.proofs.Common.{◌≡◌, ◌∙◌, ℕ, sym}
use Rattle.std.specs.Prelude.{Option, Some, None, IfSome, IsTrue}
use Rattle.frame_core.proofs.Searches.{lowest_some}
use Rattle.state_core.specs.HandingOut.{is_run, lowest_run}
use Rattle.state_core.specs.ZoneState.{ZoneState, frame_count}
use Rattle.zone_tables.proofs.Facts.{is_sound}
use Rattle.zone_tables.proofs.BlockFrames.{first_run_seen}
use Rattle.zone_tables.proofs.zone.ZoneTables.find_run.Goals as goal

run_if : (v : ZoneState) (order : ℕ) (o : Option ℕ) → o ≡ lowest_run v order → IfSome o (λ first. IsTrue (is_run v order first))
run_if v order None e = tt
run_if v order (Some first) e = (lowest_some (is_run v order) (frame_count v) first (sym e)).1

pub returns-clause-lowest : goal.returns-clause-lowest
returns-clause-lowest g c =
    c.first_run.ensures.lowest ∙ first_run_seen c.self.inside.frames.states c.args.self.now (is_sound c.self.view_is c.self.invariant).frames c.args.order

pub returns-clause-run : goal.returns-clause-run
returns-clause-run g c =
    run_if c.args.self.now c.args.order c.first_run.result (c.first_run.ensures.lowest ∙ first_run_seen c.self.inside.frames.states c.args.self.now (is_sound c.self.view_is c.self.invariant).frames c.args.order)
