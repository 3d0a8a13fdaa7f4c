use Rattle.std.proofs.Common.{true, false, ◌∙◌, sym, ap, refl, length, arith}
use Rattle.std.specs.FinSet as set
use Rattle.std.specs.Prelude.{is_some, nat_eq}
use Rattle.frame_core.proofs.Searches.{count_some}
use Rattle.number_set.specs.Numbers.{Numbers}
use Rattle.scan_core.proofs.FrameSets.{insert_if}
use Rattle.scan_core.proofs.Numbering.{member_insert}
use Rattle.zone_tables.specs.declared.note.PageNote.{PageNote}
use Rattle.zone_tables.specs.Notes.{is_in_use}
use Rattle.zone_tables.proofs.InUse.{in_use_within, lost_counted}
use Rattle.zone_tables.proofs.notes.Notes.remove.Goals as goal

pub overflow_sub-self : goal.overflow_sub-self
overflow_sub-self c =
    let was = ap (λ items. is_in_use items c.args.page) c.self.view_is ∙ c.requires.used in
    omega (arith, count_some (is_in_use c.self.inside.notes.items) (length c.self.inside.notes.items) c.args.page (in_use_within c.self.inside.notes.items c.args.page was) was, c.self.invariant.in_use)

pub invariant_of-self : goal.invariant_of-self
invariant_of-self c =
    let was = (λ i. is_in_use (c.self.view_is i) (c.get.ensures.value i)) ∙ c.requires.used in
    lost_counted c.self.inside c.self.invariant c.get.result c.of.result (in_use_within c.self.inside.notes.items c.get.result was) c.insert.new.self (ap (λ (s : Numbers). s.bound) c.insert.ensures) c.get-2.result false
    (c.get-2.ensures.value ∙ sym c.get.ensures.value) (sym (ap (λ (n : PageNote). is_some n.placement) (c.of.ensures ∙ c.unused.ensures)))
    (λ q. ap (λ (s : Numbers). set.contains s.members q) c.insert.ensures ∙ member_insert c.self.inside.unused.members c.get-2.result q ∙ insert_if (nat_eq q c.get-2.result) (set.contains c.self.inside.unused.members q) true refl)
    was refl
