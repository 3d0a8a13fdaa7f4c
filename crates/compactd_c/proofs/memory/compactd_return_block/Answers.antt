use Rattle.std.proofs.Common.{◌≡◌, sym, subst, ◌∙◌}
use Rattle.std.specs.Prelude.{Option, Some, IfSome}
use Rattle.row_core.specs.Seen.{Row}
use Rattle.state_core.specs.Lending.{block_place}
use Rattle.compactd_c.proofs.memory.compactd_return_block.Goals as goal

pub return_block-requires : goal.return_block-requires
return_block-requires c =
    subst (λ (o : Option Row). IfSome o (λ row. Some row.at ≡ block_place c.in-Some.zone.now c.args.first)) (sym c.taken.ensures.row.0 ∙ c.in-Some-taken.is) (c.requires c.in-Some.zone.now c.in-Some.ensures.zone)
