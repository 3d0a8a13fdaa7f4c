use Rattle.std.proofs.Common.{◌≡◌, sym, subst, ◌∙◌}
use Rattle.std.specs.Prelude.{Option, Some, IfSome}
use Rattle.row_core.specs.Seen.{Row}
use Rattle.state_core.specs.Lending.{page_place}
use Rattle.compactd_c.specs.Ranges.{address_of}
use Rattle.compactd_c.proofs.memory.compactd_return_page.Goals as goal

pub return_page-requires : goal.return_page-requires
return_page-requires c =
    subst (λ (o : Option Row). IfSome o (λ row. Some row.at ≡ page_place c.in-Some.zone.now (address_of c.args.space c.args.vpage))) (sym c.taken.ensures.row.0 ∙ c.in-Some-taken.is) (c.requires c.in-Some.zone.now c.in-Some.ensures.zone)
