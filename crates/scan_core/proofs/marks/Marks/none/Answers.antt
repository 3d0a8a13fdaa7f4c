use Rattle.std.proofs.Common.{Bool, ap, length, false, arith, ◌∙◌}
use Rattle.std.proofs.lemmas.List.{length-replicate}
use Rattle.scan_core.proofs.Tallying.{no_marks}
use Rattle.scan_core.proofs.marks.Marks.none.Goals as goal

pub invariant_of-result : goal.invariant_of-result
invariant_of-result c =
    (no_marks c.in_ok-marked.marked.items c.args.blocks c.in_ok-marked.ensures.items, omega (arith, ap length c.in_ok-marked.ensures.items ∙ length-replicate {A = Bool} c.args.blocks false, c.requires))
