use Rattle.std.proofs.Common.{◌≡◌, ◌<◌, Bool, false, List, ap, sym, ◌∙◌, length, length-set, arith}
use Rattle.frame_core.specs.Below.{one_if}
use Rattle.frame_core.proofs.Searches.{count_most}
use Rattle.scan_core.specs.Frames.{true_at}
use Rattle.scan_core.proofs.Tallying.{byte_most, byte_one, marks_now}
use Rattle.scan_core.proofs.marks.Marks.set.Goals as goal

pub overflow_sub-self : goal.overflow_sub-self
overflow_sub-self c =
    let items = c.self.inside.marked.items in
    let at : true_at items c.args.block ≡ c.is_marked.result = ap (λ (bs : List Bool). true_at bs c.args.block) c.self.view_is ∙ sym c.is_marked.ensures in
    let within : c.args.block < length items = omega (arith, ap length c.self.view_is, c.requires) in
    let one = ap one_if at in
    omega (arith, c.from.ensures, byte_one c.is_marked.result, one, c.self.invariant.0, marks_now items c.args.block false within)

pub overflow_add-self : goal.overflow_add-self
overflow_add-self c = omega (arith, c.self.invariant, c.from-2.ensures, byte_most c.args.marked, count_most (true_at c.self.inside.marked.items) (length c.self.inside.marked.items))

pub invariant_of-self : goal.invariant_of-self
invariant_of-self c =
    let items = c.self.inside.marked.items in
    let at : true_at items c.args.block ≡ c.is_marked.result = ap (λ (bs : List Bool). true_at bs c.args.block) c.self.view_is ∙ sym c.is_marked.ensures in
    let within : c.args.block < length items = omega (arith, ap length c.self.view_is, c.requires) in
    let one = ap one_if at in (
      omega (arith, c.from.ensures, byte_one c.is_marked.result, one, c.from-2.ensures, byte_one c.args.marked, c.self.invariant.0, marks_now items c.args.block false within, marks_now items c.args.block c.args.marked within),
      omega (arith, length-set items c.args.block c.args.marked, c.self.invariant.1),
    )
