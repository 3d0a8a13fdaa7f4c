use Rattle.std.proofs.Common.{◌∙◌, ◌+◌, ◌^◌, ◌&&◌, arith}
use Rattle.std.specs.Prelude.{nat_le}
use Rattle.frame_core.specs.Below.{lowest}
use Rattle.scan_core.specs.Frames.{source_at}
use Rattle.fewest_core.proofs.OpenRuns.{block_within}
use Rattle.zone_tables.proofs.Facts.{is_sound}
use Rattle.zone_tables.proofs.Scanning.{next_to_go_seen}
use Rattle.zone_tables.proofs.zone.ZoneTables.next_to_go.Goals as goal

pub next_movable-requires : goal.next_movable-requires
next_movable-requires g c = let sound = is_sound c.self.view_is c.self.invariant in
    omega (arith, c.get-first.ensures.value, c.frames.ensures.value, sound.frames.count, block_within c.args.self.now c.args.first c.args.order c.requires)

pub returns : goal.returns
returns g c =
    c.next_movable.ensures
    ∙ (λ i. lowest (λ frame. nat_le (c.get-first.ensures.value i) frame && source_at c.self.inside.frames.states c.self.inside.frames.movable frame) (c.get-first.ensures.value i + c.frames.ensures.value i))
    ∙ next_to_go_seen c.self.view_is c.self.invariant c.args.first (2 ^ c.args.order) (block_within c.args.self.now c.args.first c.args.order c.requires)
