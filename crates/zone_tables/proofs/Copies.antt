-- Lists of copies.
use Rattle.std.proofs.Common.{◌≡◌, ℕ, false, replicate, ◌⊎◌, inl, inr, ap}
use Rattle.std.specs.Prelude.{Bool, Option, Some, None, slice_get, unwrap_or}
use Rattle.std.specs.Option.{option_and_then}
use Rattle.std.proofs.lemmas.Option.{slice_get_past}
use Rattle.std.proofs.lemmas.List.{length-replicate}
use Rattle.std.proofs.lemmas.Bool.Decides.{leb_tells}
use Rattle.frame_core.proofs.Lists.{slice_get_replicate}
use Rattle.zone_tables.specs.declared.note.PageNote.{PageNote}
use Rattle.scan_core.specs.Frames.{true_at}
use Rattle.zone_tables.specs.HandedOut.{order_of}
use Rattle.zone_tables.specs.Notes.{unused_note, placement_of, is_unmovable_of, says_unmovable}

-- what a list of n copies has at an index
pub copies : {X : Type 0} (n i : ℕ) (x : X) → (slice_get (replicate n x) i ≡ Some x) ⊎ (slice_get (replicate n x) i ≡ None)
copies n i x = elim (leb_tells n i) [ inl past ↦ inr (slice_get_past (replicate n x) i (simp length-replicate past.1)) | inr within ↦ inl (slice_get_replicate n i x within.1) ]

pub no_placement : (n page : ℕ) → placement_of (replicate n unused_note) page ≡ None
no_placement n page =
    elim (copies n page unused_note) [
      | inl e ↦ ap (option_and_then (λ (note : PageNote). note.placement)) e
      | inr e ↦ ap (option_and_then (λ (note : PageNote). note.placement)) e
    ]

pub all_movable : (n page : ℕ) → is_unmovable_of (replicate n unused_note) page ≡ false
all_movable n page = elim (copies n page unused_note) [ inl e ↦ ap says_unmovable e | inr e ↦ ap says_unmovable e ]

pub no_order : (n first : ℕ) → order_of (replicate n None) first ≡ None
no_order n first = elim (copies n first None) [ inl e ↦ ap (option_and_then (λ (order : Option ℕ). order)) e | inr e ↦ ap (option_and_then (λ (order : Option ℕ). order)) e ]

pub all_false : (n place : ℕ) → true_at (replicate n false) place ≡ false
all_false n place = elim (copies n place false) [ inl e ↦ ap (λ (o : Option Bool). unwrap_or o false) e | inr e ↦ ap (λ (o : Option Bool). unwrap_or o false) e ]
