use Rattle.std.proofs.Common.{◌≤◌, ◌<◌, true, false, ◌∙◌, sym, ap, refl, length, arith}
use Rattle.std.specs.FinSet as set
use Rattle.std.specs.Prelude.{is_some, nat_eq}
use Rattle.frame_core.proofs.Searches.{count_most}
use Rattle.frame_core.specs.Below.{count_below}
use Rattle.number_set.specs.Numbers.{Numbers}
use Rattle.scan_core.proofs.FrameSets.{remove_if}
use Rattle.scan_core.proofs.Numbering.{member_remove}
use Rattle.zone_tables.specs.declared.note.PageNote.{PageNote}
use Rattle.zone_tables.specs.Notes.{is_in_use}
use Rattle.zone_tables.proofs.InUse.{gained_counted}
use Rattle.zone_tables.proofs.notes.Notes.add.Goals as goal

pub overflow_add-self : goal.overflow_add-self
overflow_add-self c =
    let most : count_below (is_in_use c.self.inside.notes.items) (length c.self.inside.notes.items) ≤ length c.self.inside.notes.items = count_most (is_in_use c.self.inside.notes.items) (length c.self.inside.notes.items) in
    omega (arith, most, c.self.invariant.in_use, c.self.invariant.few)

pub invariant_of-self : goal.invariant_of-self
invariant_of-self c =
    let within : c.get.result < length c.self.inside.notes.items = omega (arith, c.requires.within, c.get.ensures.value, ap length c.self.view_is) in
    let was = (λ i. is_in_use (c.self.view_is i) (c.get.ensures.value i)) ∙ c.requires.unused in
    gained_counted c.self.inside c.self.invariant c.get.result c.of.result within c.remove.new.self (ap (λ (s : Numbers). s.bound) c.remove.ensures) c.get-2.result true (c.get-2.ensures.value ∙ sym c.get.ensures.value) (sym (ap (λ (n : PageNote). is_some n.placement) c.of.ensures ∙ c.requires.placed))
    (λ q. ap (λ (s : Numbers). set.contains s.members q) c.remove.ensures ∙ member_remove c.self.inside.unused.members c.get-2.result q ∙ remove_if (nat_eq q c.get-2.result) (set.contains c.self.inside.unused.members q) false refl)
    was refl
