use Rattle.std.proofs.Common.{◌*◌, ◌∙◌, [], length, ap, subst, sym}
use Rattle.std.proofs.lemmas.List.{length-replicate}
use Rattle.table_core.specs.Listed.{AreListed}
use Rattle.table_core.proofs.Listing.{listed_none}
use Rattle.table_core.proofs.tables.Tables.open.Goals as goal

pub invariant_of-result : goal.invariant_of-result
invariant_of-result c =
    let lists = c.in_ok-none_named.ensures.items in
    let count = ap length lists ∙ length-replicate (512 * c.args.blocks) [] in (
      subst (AreListed c.in_ok-open.field-0.entries) (sym lists)
          (listed_none c.in_ok-open.field-0.entries (512 * c.args.blocks) c.in_ok-open.ensures.blank),
      c.in_ok-open.ensures.frames ∙ sym count,
    )
