use Rattle.std.proofs.Common.{Some, ◌∙◌, ap}
use Rattle.std.specs.Prelude.{is_some, slice_set}
use Rattle.zone_tables.specs.declared.note.PageNote.{PageNote}
use Rattle.zone_tables.proofs.InUse.{note_read, placed_counted, used_here}
use Rattle.zone_tables.proofs.notes.Notes.place.Goals as goal

pub invariant_of-self : goal.invariant_of-self
invariant_of-self c = placed_counted c.self.inside c.self.invariant c.get.result _ (used_here c.self.view_is c.get.ensures.value c.requires) (ap (λ (n : PageNote). is_some n.placement) c.place.ensures)

pub returns : goal.returns
returns c = λ note found.
    let is = note_read c.self.view_is c.get.ensures.value c.requires c.index_mut.ensures.value found in
    let changed = c.place.ensures ∙ (λ i. record (is i) { placement = Some c.args.placement }) in
    λ i. slice_set (c.self.view_is i) (c.get.ensures.value i) (changed i)
