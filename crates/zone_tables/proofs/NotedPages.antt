-- What contracts see of the notes of pages, when one note changes.
use Rattle.std.proofs.Common.{◌≡◌, ◌≢◌, ℕ, ◌<◌, ◌≤◌, false, List, length, inl, inr, refl, sym, ap, ◌∙◌, arith, Bool}
use Rattle.std.specs.Prelude.{Some, slice_set, if◌then◌else◌}
use Rattle.std.specs.FinSet as set
use Rattle.std.proofs.lemmas.Bool.Decides.{eqb_tells}
use Rattle.std.proofs.lemmas.List.{length-set}
use Rattle.std.proofs.lemmas.Option.{slice_get_past}
use Rattle.frame_core.proofs.Lists.{slice_get_set_same, slice_get_set_other}
use Rattle.zone_tables.specs.declared.note.PageNote.{PageNote}
use Rattle.zone_tables.specs.Notes.{placement_of, is_unmovable_of, says_unmovable}
use Rattle.scan_core.specs.NumberSet.{gathered}
use Rattle.zone_tables.specs.Tabulated.{tabulated}
use Rattle.zone_tables.proofs.SearchesAndCounts.{placement_past}
use Rattle.zone_tables.proofs.InUse.{placement_here, placement_there}
use Rattle.zone_tables.proofs.Tabulating.{tabulated_same, gathered_same, put, tabulated_put, gathered_put}

pub unmovable_past : (notes : List PageNote) (page : ℕ) → length notes ≤ page → is_unmovable_of notes page ≡ false
unmovable_past notes page past = ap says_unmovable (slice_get_past notes page past)

module _ (notes : List PageNote) (page : ℕ) (note : PageNote) (within : page < length notes) where
  abbrev changed : List PageNote
  changed = slice_set notes page note

  len : length changed ≡ length notes
  len = length-set notes page note

  unmovable_here : (q : ℕ) → q ≡ page → is_unmovable_of changed q ≡ says_unmovable (Some note)
  unmovable_here q same = ap says_unmovable (slice_get_set_same notes page q note same within)

  unmovable_there : (q : ℕ) → q ≢ page → is_unmovable_of changed q ≡ is_unmovable_of notes q
  unmovable_there q other = ap says_unmovable (slice_get_set_other notes page q note other)

  -- the placements after the page got another placement, or none
  pub placements_put : tabulated (placement_of changed) (length changed) ≡ put (tabulated (placement_of notes) (length notes)) page note.placement
  placements_put =
      ap (tabulated (placement_of changed)) len
      ∙ tabulated_put (placement_of notes) (placement_of changed) (length notes) page note.placement
      (placement_past notes) (λ q past. placement_past changed q (omega (arith, len, past)))
      (placement_here notes page note within page refl) (placement_there notes page note within)

  -- the placements stay where the page's placement does
  pub placements_kept : note.placement ≡ placement_of notes page → tabulated (placement_of changed) (length changed) ≡ tabulated (placement_of notes) (length notes)
  placements_kept is =
      ap (tabulated (placement_of changed)) len
      ∙ tabulated_same (placement_of changed) (placement_of notes) (length notes) (λ q. elim (eqb_tells q page) [
        | inl same ↦ placement_here notes page note within q same.1 ∙ is ∙ ap (placement_of notes) (sym same.1)
        | inr other ↦ placement_there notes page note within q other.1
      ])

  -- the unmovable pages after this page was noted as one, or as none
  pub unmovable_put : (b : Bool) → says_unmovable (Some note) ≡ b → gathered (is_unmovable_of changed) (length changed) ≡ (if b then set.insert (gathered (is_unmovable_of notes) (length notes)) page else set.remove (gathered (is_unmovable_of notes) (length notes)) page)
  unmovable_put b is =
      ap (gathered (is_unmovable_of changed)) len
      ∙ gathered_put (is_unmovable_of notes) (is_unmovable_of changed) (length notes) page b
      (unmovable_past notes) (λ q past. unmovable_past changed q (omega (arith, len, past)))
      (unmovable_here page refl ∙ is) unmovable_there

  -- the unmovable pages stay where the note says of this page what it said
  pub unmovable_kept : says_unmovable (Some note) ≡ is_unmovable_of notes page → gathered (is_unmovable_of changed) (length changed) ≡ gathered (is_unmovable_of notes) (length notes)
  unmovable_kept is =
      ap (gathered (is_unmovable_of changed)) len
      ∙ gathered_same (is_unmovable_of changed) (is_unmovable_of notes) (length notes) (λ q. elim (eqb_tells q page) [
        | inl same ↦ unmovable_here q same.1 ∙ is ∙ ap (is_unmovable_of notes) (sym same.1)
        | inr other ↦ unmovable_there q other.1
      ])
