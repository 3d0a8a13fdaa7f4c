use Rattle.std.proofs.Common.{◌∙◌, ◌+◌, ◌^◌, ◌&&◌, ℕ, ap}
use Rattle.std.specs.Prelude.{nat_le}
use Rattle.frame_core.specs.Order.{is_aligned}
use Rattle.fewest_core.proofs.OpenRuns.{block_within}
use Rattle.zone_tables.proofs.Facts.{is_sound}
use Rattle.zone_tables.proofs.Scanning.{to_go_counted}
use Rattle.zone_tables.proofs.zone.ZoneTables.pages_to_go.Goals as goal

pub movable_in_run-requires : goal.movable_in_run-requires
movable_in_run-requires g c =
    ap (λ (n : ℕ). is_aligned c.args.order c.args.first && nat_le (c.args.first + 2 ^ c.args.order) n) (is_sound c.self.view_is c.self.invariant).frames.count ∙ c.requires

pub returns : goal.returns
returns g c = c.movable_in_run.ensures ∙ to_go_counted c.self.view_is c.self.invariant c.args.first (2 ^ c.args.order) (block_within c.args.self.now c.args.first c.args.order c.requires)
