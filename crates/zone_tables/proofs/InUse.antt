-- Which page numbers are in use by their notes, and how many, when one note changes.
use Rattle.std.proofs.Common.{◌≡◌, ◌≢◌, ℕ, ◌+◌, ◌-◌, ◌<◌, Bool, true, false, not, List, length, inl, inr, refl, sym, ap, ◌∙◌, arith}
use Rattle.std.specs.Prelude.{Option, Some, None, is_some, is_none, nat_eq, nat_lt, slice_get, slice_set, slice_index_or, ◌&&◌, if◌then◌else◌}
use Rattle.std.specs.FinSet as set
use Rattle.number_set.specs.Numbers.{Numbers}
use Rattle.std.specs.Option.{option_and_then}
use Rattle.frame_core.specs.FixedVec.{with_item}
use Rattle.std.proofs.lemmas.Bool.{lt-ltb, and_right}
use Rattle.std.proofs.lemmas.Bool.Decides.{eqb_tells}
use Rattle.std.proofs.lemmas.List.{length-set}
use Rattle.std.proofs.lemmas.Option.{slice_get_cases, slice_get_read}
use Rattle.frame_core.proofs.Lists.{slice_get_set_same, slice_get_set_other}
use Rattle.frame_core.proofs.Searches.{count_more, count_same}
use Rattle.frame_core.specs.Below.{count_below}
use Rattle.zone_tables.specs.declared.note.PageNote.{PageNote}
use Rattle.state_core.specs.declared.placement.Placement.{Placement}
use Rattle.zone_tables.specs.declared.notes.Notes.TheInside.{Inside}
use Rattle.zone_tables.specs.Notes.{placement_of, is_in_use}
use Rattle.zone_tables.specs.NotesInside.{IsCounted}

-- a page number that is in use has a note
pub in_use_within : (notes : List PageNote) (page : ℕ) → is_in_use notes page ≡ true → page < length notes
in_use_within notes page used = elim (slice_get_cases notes page).1 [
  | inl here ↦ here.1
  | inr past ↦ (let none : is_in_use notes page ≡ false = ap (λ o. is_some (option_and_then (λ (n : PageNote). n.placement) o)) past.1 in cc)
]

-- what is read of the note of a page in use
module _ {items notes : List PageNote} (view : items ≡ notes) {number page : ℕ} (at : number ≡ page) (used : is_in_use notes page ≡ true) where
  pub used_here : is_in_use items number ≡ true
  used_here = (λ i. is_in_use (view i) (at i)) ∙ used

  pub note_here : {read : PageNote} → read ≡ slice_index_or items number read → slice_get items number ≡ Some read
  note_here {read} is = slice_get_read items (length items) number read refl (in_use_within items number used_here) is

  pub note_read : {read : PageNote} → read ≡ slice_index_or items number read → {note : PageNote} → slice_get notes page ≡ Some note → read ≡ note
  note_read {read} is {note} found = let both : Some read ≡ Some note = sym (note_here is) ∙ (λ i. slice_get (view i) (at i)) ∙ found in cc

some_not_none : (placement : Option Placement) → is_some placement ≡ true → is_none placement ≡ false
some_not_none (Some placement) e = refl
some_not_none None e = cc

module _ (notes : List PageNote) (page : ℕ) (note : PageNote) (within : page < length notes) where
  pub placement_here : (q : ℕ) → q ≡ page → placement_of (slice_set notes page note) q ≡ note.placement
  placement_here q same = ap (option_and_then (λ (n : PageNote). n.placement)) (slice_get_set_same notes page q note same within)

  pub placement_there : (q : ℕ) → q ≢ page → placement_of (slice_set notes page note) q ≡ placement_of notes q
  placement_there q other = ap (option_and_then (λ (n : PageNote). n.placement)) (slice_get_set_other notes page q note other)

  -- the number of pages in use is one more, one fewer, or as it was
  pub gained : is_in_use notes page ≡ false → is_some note.placement ≡ true → count_below (is_in_use (slice_set notes page note)) (length (slice_set notes page note)) ≡ count_below (is_in_use notes) (length notes) + 1
  gained was is =
      ap (count_below (is_in_use (slice_set notes page note))) (length-set notes page note)
      ∙ count_more (is_in_use notes) (is_in_use (slice_set notes page note)) (length notes) page within was (ap is_some (placement_here page refl) ∙ is) (λ q ne. ap is_some (placement_there q ne))

  pub lost : is_in_use notes page ≡ true → is_some note.placement ≡ false → count_below (is_in_use notes) (length notes) ≡ count_below (is_in_use (slice_set notes page note)) (length (slice_set notes page note)) + 1
  lost was is =
      count_more (is_in_use (slice_set notes page note)) (is_in_use notes) (length notes) page within (ap is_some (placement_here page refl) ∙ is) was (λ q ne. sym (ap is_some (placement_there q ne)))
      ∙ ap (λ (n : ℕ). count_below (is_in_use (slice_set notes page note)) n + 1) (sym (length-set notes page note))

  in_use_kept : is_in_use notes page ≡ is_some note.placement → (q : ℕ) → is_in_use (slice_set notes page note) q ≡ is_in_use notes q
  in_use_kept same q = elim (eqb_tells q page) [
    | inl here ↦ ap is_some (placement_here q here.1) ∙ sym same ∙ ap (is_in_use notes) (sym here.1)
    | inr other ↦ ap is_some (placement_there q other.1)
  ]

  pub kept : is_in_use notes page ≡ is_some note.placement → count_below (is_in_use (slice_set notes page note)) (length (slice_set notes page note)) ≡ count_below (is_in_use notes) (length notes)
  kept same =
      ap (count_below (is_in_use (slice_set notes page note))) (length-set notes page note)
      ∙ count_same (is_in_use (slice_set notes page note)) (is_in_use notes) (length notes) (λ q h. in_use_kept same q)

module _ (z : Inside) (counted : IsCounted z) (page : ℕ) (note : PageNote) (within : page < length z.notes.items) where
  -- the numbers that aren't in use, after one was put among them or taken out
  unused_then : (unused : Numbers) (number : ℕ) (is : Bool) → number ≡ page → is ≡ is_some note.placement → ((q : ℕ) → set.contains unused.members q ≡ (if nat_eq q number then not is else set.contains z.unused.members q))
      → (q : ℕ) → set.contains unused.members q ≡ (nat_lt q (length (slice_set z.notes.items page note)) && is_none (placement_of (slice_set z.notes.items page note) q))
  unused_then unused number is at used put q = put q ∙ ap (λ k. if nat_eq q k then not is else set.contains z.unused.members q) at ∙ elim (eqb_tells q page) [
    | inl here ↦ (ap (λ b. if b then not is else set.contains z.unused.members q) here.0 ∙ ap not used ∙ sym (ap is_none (placement_here z.notes.items page note within q here.1))
        ∙ sym (ap (λ b. b && is_none (placement_of (slice_set z.notes.items page note) q)) (lt-ltb q (length (slice_set z.notes.items page note)) (omega (arith, here.1, within, length-set z.notes.items page note)))))
    | inr away ↦ (ap (λ b. if b then not is else set.contains z.unused.members q) away.0 ∙ counted.unused q
        ∙ (λ i. nat_lt q (sym (length-set z.notes.items page note) i) && is_none (sym (placement_there z.notes.items page note within q away.1) i)))
  ]

  module _ (unused : Numbers) (same_room : unused.bound ≡ z.unused.bound) (number : ℕ) (is : Bool) (at : number ≡ page) (used : is ≡ is_some note.placement) (put : (q : ℕ) → set.contains unused.members q ≡ (if nat_eq q number then not is else set.contains z.unused.members q)) where
    pub gained_counted : is_in_use z.notes.items page ≡ false → is ≡ true → IsCounted (record z { notes = with_item z.notes page note; in_use = z.in_use + 1; unused = unused })
    gained_counted was so = record {
      few = omega (arith, counted.few, length-set z.notes.items page note);
      room = omega (arith, counted.room, same_room, length-set z.notes.items page note);
      in_use = omega (arith, counted.in_use, gained z.notes.items page note within was (sym used ∙ so));
      unused = unused_then unused number is at used put;
    }

    pub lost_counted : is_in_use z.notes.items page ≡ true → is ≡ false → IsCounted (record z { notes = with_item z.notes page note; in_use = z.in_use - 1; unused = unused })
    lost_counted was so = record {
      few = omega (arith, counted.few, length-set z.notes.items page note);
      room = omega (arith, counted.room, same_room, length-set z.notes.items page note);
      in_use = omega (arith, counted.in_use, lost z.notes.items page note within was (sym used ∙ so));
      unused = unused_then unused number is at used put;
    }

    pub kept_counted : is_in_use z.notes.items page ≡ is → IsCounted (record z { notes = with_item z.notes page note; unused = unused })
    kept_counted same = record {
      few = omega (arith, counted.few, length-set z.notes.items page note);
      room = omega (arith, counted.room, same_room, length-set z.notes.items page note);
      in_use = counted.in_use ∙ sym (kept z.notes.items page note within (same ∙ used));
      unused = unused_then unused number is at used put;
    }

-- a page in use gets another placement
pub placed_counted : (z : Inside) → IsCounted z → (page : ℕ) (note : PageNote) → is_in_use z.notes.items page ≡ true → is_some note.placement ≡ true → IsCounted (record z { notes = with_item z.notes page note })
placed_counted z counted page note used placed =
    kept_counted z counted page note (in_use_within z.notes.items page used) z.unused refl page true refl (sym placed) unused used where
      absent : set.contains z.unused.members page ≡ false
      absent = counted.unused page ∙ and_right (nat_lt page (length z.notes.items)) _ (some_not_none (placement_of z.notes.items page) used)

      unused : (q : ℕ) → set.contains z.unused.members q ≡ (if nat_eq q page then false else set.contains z.unused.members q)
      unused q = elim (eqb_tells q page) [
        | inl here ↦ (ap (set.contains z.unused.members) here.1 ∙ absent ∙ sym (ap (λ b. if b then false else set.contains z.unused.members q) here.0))
        | inr away ↦ sym (ap (λ b. if b then false else set.contains z.unused.members q) away.0)
      ]

-- the note of a page in use changes, and the page stays where it is
pub changed_counted : (z : Inside) → IsCounted z → (page : ℕ) → is_in_use z.notes.items page ≡ true → {note : PageNote} → slice_get z.notes.items page ≡ Some note → (changed : PageNote) → changed.placement ≡ note.placement → IsCounted (record z { notes = with_item z.notes page changed })
changed_counted z counted page used is changed same =
    placed_counted z counted page changed used (ap is_some same ∙ sym (ap (λ o. is_some (option_and_then (λ (n : PageNote). n.placement) o)) is) ∙ used)
