use Rattle.std.proofs.Common.{◌-◌, ◌∙◌, ap}
use Rattle.std.specs.Prelude.{slice_set}
use Rattle.zone_tables.specs.declared.note.PageNote.{PageNote}
use Rattle.zone_tables.proofs.InUse.{changed_counted, note_here, note_read, used_here}
use Rattle.zone_tables.proofs.notes.Notes.unshare.Goals as goal

pub invariant_of-self : goal.invariant_of-self
invariant_of-self c =
    changed_counted c.self.inside c.self.invariant c.get.result (used_here c.self.view_is c.get.ensures.value c.requires.used) (note_here c.self.view_is c.get.ensures.value c.requires.used c.index_mut.ensures.value) _ (ap (λ (n : PageNote). n.placement) c.unshare.ensures)

pub returns : goal.returns
returns c = λ note found.
    let is = note_read c.self.view_is c.get.ensures.value c.requires.used c.index_mut.ensures.value found in
    let changed = c.unshare.ensures ∙ (λ i. record (is i) { maps = (is i).maps - 1 }) in
    λ i. slice_set (c.self.view_is i) (c.get.ensures.value i) (changed i)
