use Rattle.std.proofs.Common.{◌≡◌, ◌∙◌, Some, ap, sym}
use Rattle.state_core.specs.HandingOut.{lowest_run}
use Rattle.state_core.proofs.HandingOut.{lowest_whole}
use Rattle.zone_core.proofs.blocks.ZoneInOf+W+Z.take_huge.Goals as goal

-- the lowest free block of order 9 is the lowest whole pageblock
pub returns-clause-whole : goal.returns-clause-whole
returns-clause-whole g c =
    let found : lowest_run c.args.self.now 9 ≡ Some c.in_ok-first.first = ap (lowest_run c.args.self.now) (sym c.of_pageblock.ensures) ∙ c.in_ok-first.ensures.first in
    (lowest_whole c.args.self.now c.in_ok-first.first found).1 ∙ ap Some (sym c.block_of.ensures)
