use Rattle.std.proofs.Common.{◌∙◌, ◌+◌, ◌^◌, ◌&&◌, ℕ, ap}
use Rattle.std.specs.Prelude.{nat_le}
use Rattle.frame_core.specs.Order.{is_aligned}
use Rattle.zone_tables.proofs.Facts.{is_sound}
use Rattle.zone_tables.proofs.OpenRuns.{free_counted}
use Rattle.zone_tables.proofs.zone.ZoneTables.free_in_run.Goals as goal

pub free_in_run-requires : goal.free_in_run-requires
free_in_run-requires g c =
    ap (λ (n : ℕ). is_aligned c.args.order c.args.first && nat_le (c.args.first + 2 ^ c.args.order) n) (is_sound c.self.view_is c.self.invariant).frames.count ∙ c.requires

pub returns : goal.returns
returns g c = c.free_in_run.ensures ∙ free_counted c.self.inside c.args.self.now (is_sound c.self.view_is c.self.invariant) c.args.first c.args.order c.requires
