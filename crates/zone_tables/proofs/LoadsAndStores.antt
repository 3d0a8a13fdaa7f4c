-- A load and a store leave a zone sound.
use Rattle.std.proofs.Common.{◌≡◌, ◌≢◌, ℕ, ◌*◌, ◌<◌, true, false, List, [], ◌∷◌, length, inl, inr, refl, sym, ap, subst, ◌∙◌, arith}
use Rattle.std.specs.Prelude.{Option, Some, None, IsSome, is_some, slice_get, slice_set, unwrap_or, nat_eq, ◌&&◌, ◌||◌, if◌then◌else◌}
use Rattle.std.specs.FinMap as map
use Rattle.std.specs.Option.{option_and_then}
use Rattle.std.proofs.lemmas.Bool.{eq-eqb, and_from, and_left, and_right}
use Rattle.std.proofs.lemmas.Bool.Decides.{eqb_tells}
use Rattle.std.proofs.lemmas.List.{length-set}
use Rattle.std.proofs.lemmas.Option.{slice_get_within, get_or_from_slice_get}
use Rattle.frame_core.proofs.Lists.{slice_get_set_same, slice_get_set_other}
use Rattle.frame_core.specs.declared.place.Address.{Address}
use Rattle.frame_core.proofs.Maps.{no_test}
use Rattle.frame_core.specs.declared.record.Record.TheVariants.{Store}
use Rattle.frame_core.specs.History.{page_at, is_page, last, dirty, pins, maps}
use Rattle.zone_tables.specs.History.{History, told}
use Rattle.frame_core.specs.Moves.{out}
use Rattle.table_core.specs.declared.entry.Entry.TheVariants.{Present}
use Rattle.frame_core.specs.LentWords.{IsHere, Words, with_rows}
use Rattle.frame_core.specs.Words.{words_of, word_of, with_word}
use Rattle.zone_tables.specs.declared.note.PageNote.{PageNote}
use Rattle.zone_tables.specs.declared.zone.ZoneTables.TheInside.{Inside}
use Rattle.state_core.specs.declared.placement.Placement.{Placement}
use Rattle.state_core.specs.declared.placement.Placement.TheVariants.{At, Moving}
use Rattle.state_core.specs.Valid.{IsValidZone}
use Rattle.state_core.specs.Access.{is_page_lent, value_at, loaded, stored}
use Rattle.zone_tables.specs.Fits.{entry_for, WordsFit, NoteFits, NotesFit}
use Rattle.state_core.specs.ZoneState.{words_frame, ZoneState, placement_at, frame_count}
use Rattle.zone_tables.specs.Sound.{IsSound, state_of}
use Rattle.zone_tables.specs.LentPages.{pages_lent}
use Rattle.zone_tables.specs.Notes.{says_unmovable}
use Rattle.zone_tables.proofs.HeldWords.{contents_kept}
use Rattle.zone_tables.proofs.LentBlocks.{words_here}
use Rattle.zone_tables.proofs.NotedPages.{placements_kept, unmovable_kept}
use Rattle.state_core.proofs.Facts.{taken, skipped, page_named, frame_within, frames_differ, not_none}
use Rattle.zone_tables.proofs.Facts.{noted_view, is_sound, Becomes, becomes}
use Rattle.state_core.proofs.Holding.{at_takes, holder_at}
use Rattle.state_core.proofs.Accessed.{valid_stored, valid_loaded}
use Rattle.std.specs.FinSet as set
use Rattle.state_core.specs.Pairs.{holder}

-- what the entry of an address says of the placement of its page
pub present_is : (o : Option Placement) (frame : ℕ) → entry_for o ≡ Present frame → o ≡ Some (At frame)
present_is None frame e = cc
present_is (Some (At f)) frame e = cc
present_is (Some (Moving serial source target)) frame e = cc

pub loaded_sound : {W : ℕ} (z : Inside W) (v : ZoneState) → IsSound z v → (history : History) (client : ℕ) (address : Address) (frame word : ℕ) → placement_at v address ≡ Some (At frame) → length (out v.records) < v.room → IsSound (record z { history = history }) (loaded v client address word)
loaded_sound z v sound history client address frame word at spare = record {
  valid = valid_loaded v sound.valid spare client address frame word at;
  orders = sound.orders;
  cleared = sound.cleared;
  lent = sound.lent;
  tables = sound.tables;
  size = sound.size;
  marks = sound.marks;
  claimed = sound.claimed;
  frames = record { count = sound.frames.count; of_page = sound.frames.of_page; of_block = sound.frames.of_block; of_none = sound.frames.of_none };
  entries = record { each = sound.entries.each };
  words = record { count = sound.words.count; sized = sound.words.sized; each = sound.words.each };
  notes = record { count = sound.notes.count; each = λ page note e used. (let fit = sound.notes.each page note e used in record { dirty = fit.dirty; pins = fit.pins; maps = fit.maps }) };
  moves = record { isolated = sound.moves.isolated; moved = sound.moves.moved; back = sound.moves.back };
  movable = record { count = sound.movable.count; each = sound.movable.each };
  unmovable = record { count = sound.unmovable.count; each = sound.unmovable.each; rest = sound.unmovable.rest };
}

pub words_set_same : (rows : List (List ℕ)) (frame : ℕ) (row : List ℕ) → frame < length rows → words_of (slice_set rows frame row) frame ≡ row
words_set_same rows frame row within = ap (λ (o : Option (List ℕ)). unwrap_or o []) (slice_get_set_same rows frame frame row refl within)

pub words_set_other : (rows : List (List ℕ)) (frame other : ℕ) (row : List ℕ) → other ≢ frame → words_of (slice_set rows frame row) other ≡ words_of rows other
words_set_other rows frame other row apart = ap (λ (o : Option (List ℕ)). unwrap_or o []) (slice_get_set_other rows frame other row apart)

-- the words of a zone after a store
module _ (rows : List (List ℕ)) (v : ZoneState) (law : IsValidZone v) (fit : WordsFit rows v) (client : ℕ) (address : Address) (page frame word value : ℕ) (named : page_at v.records address ≡ Some page) (at : map.get v.placement page ≡ Some (At frame)) (small : word < v.page_size) where
  within : frame < length rows
  within = omega (arith, frame_within v law page (At frame) at, fit.count)

  -- the last value of each word after the store
  last_is : (q w : ℕ) → last (Store client address word value ∷ v.records) q w ≡ (if nat_eq page q && nat_eq word w then value else last v.records q w)
  last_is q w = ap (λ (o : Option ℕ). if is_page o q && nat_eq word w then value else last v.records q w) named

  row_new : words_of (with_word rows frame word value) frame ≡ slice_set (words_of rows frame) word value
  row_new = words_set_same rows frame (slice_set (words_of rows frame) word value) within

  at_page : (w : ℕ) → w < v.page_size → slice_get (words_of (with_word rows frame word value) frame) w ≡ Some (last (Store client address word value ∷ v.records) page w)
  at_page w w_small =
      ap (λ (ws : List ℕ). slice_get ws w) row_new
      ∙ elim (eqb_tells word w) [
        | inl hit ↦
            (let sized = fit.sized frame (frame_within v law page (At frame) at) in
            let long : word < length (words_of rows frame) = omega arith in
            slice_get_set_same (words_of rows frame) word w value (sym hit.1) long ∙ ap Some (sym (last_is page w ∙ taken _ _ _ (and_from _ _ (eq-eqb page page refl) hit.0))))
        | inr miss ↦
            (let away : w ≢ word = λ e. miss.1 (sym e) in
            slice_get_set_other (words_of rows frame) word w value away ∙ fit.each page (At frame) w at w_small ∙ ap Some (sym (last_is page w ∙ skipped _ _ _ (and_right _ _ miss.0))))
      ]

  elsewhere : (q : ℕ) (placement : Placement) (w : ℕ) → q ≢ page → map.get v.placement q ≡ Some placement → w < v.page_size → slice_get (words_of (with_word rows frame word value) (words_frame placement)) w ≡ Some (last (Store client address word value ∷ v.records) q w)
  elsewhere q placement w ne at_q w_small =
      let apart : words_frame placement ≢ frame = frames_differ v law page q (At frame) placement at at_q ne in
      let other : nat_eq page q ≡ false = no_test page q (λ e. ne (sym e)) in
      ap (λ (ws : List ℕ). slice_get ws w) (words_set_other rows frame (words_frame placement) (slice_set (words_of rows frame) word value) apart)
      ∙ fit.each q placement w at_q w_small ∙ ap Some (sym (last_is q w ∙ skipped _ _ _ (and_left _ _ other)))

  pub stored_words : WordsFit (with_word rows frame word value) (stored v client address word value)
  stored_words = record {
    count = length-set rows frame (slice_set (words_of rows frame) word value) ∙ fit.count;
    sized = λ g h. elim (eqb_tells g frame) [
      | inl here ↦ ap (λ (f : ℕ). length (words_of (with_word rows frame word value) f)) here.1 ∙ ap length row_new ∙ length-set (words_of rows frame) word value ∙ fit.sized frame (frame_within v law page (At frame) at)
      | inr away ↦ ap length (words_set_other rows frame g (slice_set (words_of rows frame) word value) away.1) ∙ fit.sized g h
    ];
    each = λ q placement w at_q w_small. elim (eqb_tells q page) [
      | inl same ↦
          (let here : placement ≡ At frame = (let one : Some placement ≡ Some (At frame) = sym at_q ∙ ap (map.get v.placement) same.1 ∙ at in cc) in
          ap (λ (p : Placement). slice_get (words_of (with_word rows frame word value) (words_frame p)) w) here
          ∙ at_page w w_small ∙ ap (λ (r : ℕ). Some (last (Store client address word value ∷ v.records) r w)) (sym same.1))
      | inr other ↦ elsewhere q placement w other.1 at_q w_small
    ];
  }

  -- the notes after the store, which says that the page is dirty
  pub stored_notes : (notes : List PageNote) (note : PageNote) → NotesFit notes v → slice_get notes page ≡ Some note → NotesFit (slice_set notes page (record note { dirty = true })) (stored v client address word value)
  stored_notes notes note old e = record {
    count = length-set notes page (record note { dirty = true }) ∙ old.count;
    each = λ q seen is used. elim (eqb_tells q page) [
      | inl same ↦
          (let here : record note { dirty = true } ≡ seen = (let one : Some (record note { dirty = true }) ≡ Some seen = sym (slice_get_set_same notes page q (record note { dirty = true }) same.1 (slice_get_within notes page note e)) ∙ is in cc) in
          let N : PageNote → Type 0 = λ n. NoteFits n (stored v client address word value) q in
          let placed : IsSome note.placement = ap (λ (n : PageNote). is_some n.placement) here ∙ used in
          let before = old.each page note e placed in
          subst N here (record {
            dirty = sym (ap (λ (o : Option ℕ). is_page o q || dirty v.records q) named ∙ ap (λ b. b || dirty v.records q) (eq-eqb page q (sym same.1)));
            pins = before.pins ∙ ap (pins v.records) (sym same.1);
            maps = before.maps ∙ ap (maps v.records) (sym same.1);
          }))
      | inr other ↦
          (let before = old.each q seen (sym (slice_get_set_other notes page q (record note { dirty = true }) other.1) ∙ is) used in
          record {
            dirty = before.dirty ∙ sym (ap (λ (o : Option ℕ). is_page o q || dirty v.records q) named ∙ ap (λ b. b || dirty v.records q) (no_test page q (λ x. other.1 (sym x))));
            pins = before.pins;
            maps = before.maps;
          })
    ];
  }

-- what a load reads is the last value stored
pub word_read : {W : ℕ} (z : Inside W) (v : ZoneState) → IsSound z v → (address : Address) (frame word : ℕ) → placement_at v address ≡ Some (At frame) → word < v.page_size → word_of z.words.rows frame word ≡ value_at v address word
word_read z v sound address frame word at small =
    let page = page_named v address (At frame) at in
    get_or_from_slice_get (words_of z.words.rows frame) word _ 0 (sound.words.each page.0 (At frame) word page.2 small)
    ∙ ap (λ (o : Option ℕ). last v.records (unwrap_or o 0) word) (sym page.1)

-- what is known of the page that an address names, where the page isn't moving
pub record Resident {W : ℕ} (z : Inside W) (v : ZoneState) (address : Address) (frame page : ℕ) : Type 0 where
  pub named : page_at v.records address ≡ Some page
  pub at : map.get v.placement page ≡ Some (At frame)
  pub used : IsSome (map.get v.placement page)
  pub held : holder v frame ≡ Some page
  pub within : frame < frame_count v
  pub row_within : frame < length z.words.rows

module _ {W : ℕ} {z : Inside W} {v : ZoneState} (view : state_of z ≡ v) (invariant : IsSound z (state_of z)) {address : Address} {frame : ℕ} (at : placement_at v address ≡ Some (At frame)) where
  pub resident : (page : ℕ) × Resident z v address frame page
  resident =
      let sound = is_sound view invariant in
      let page = page_named v address (At frame) at in
      let within = frame_within v sound.valid page.0 (At frame) page.2 in
      let used = not_none _ (At frame) page.2 in (
        page.0,
        record {
          named = page.1;
          at = page.2;
          used = used;
          held = holder_at v sound.valid page.0 frame page.2;
          within = within;
          row_within = omega (arith, within, sound.words.count);
        },
      )

  -- the page that the frame was found to hold
  pub resident_in : {page : ℕ} → holder v frame ≡ Some page → Resident z v address frame page
  resident_in {page} found =
      let two : Some resident.0 ≡ Some page = sym resident.1.held ∙ found in
      let same : resident.0 ≡ page = cc in
      subst (Resident z v address frame) same resident.1

-- its words are here where they aren't lent
pub resident_here : {W : ℕ} {z : Inside W} {v : ZoneState} → state_of z ≡ v → IsSound z (state_of z) → (address : Address) {frame : ℕ} → placement_at v address ≡ Some (At frame) → is_page_lent v address ≡ false → IsHere z.words frame 1
resident_here {z = z} {v = v} view invariant address {frame} at back =
    let page = page_named v address (At frame) at in
    words_here z v (is_sound view invariant) page.0 (At frame) page.2 (sym (ap (λ (o : Option ℕ). set.contains v.lent_pages (unwrap_or o 0)) page.1) ∙ back)

-- what is known when a word is written
pub record Storing {W : ℕ} (z : Inside W) (v : ZoneState) (client : ℕ) (address : Address) (page frame word value : ℕ) (note : PageNote) (history : History) : Type 0 where
  pub sound : IsSound z v
  pub view : state_of z ≡ v
  pub spare : length (out v.records) < v.room
  pub named : page_at v.records address ≡ Some page
  pub at : map.get v.placement page ≡ Some (At frame)
  pub small : word < v.page_size
  pub note_is : slice_get z.notes page ≡ Some note
  pub history_is : history ≡ told z.history (Store client address word value)

-- the fields of a zone after a store
abbrev pub after_store : {W : ℕ} → Inside W → ℕ → ℕ → ℕ → ℕ → PageNote → History → Inside W
after_store z page frame word value note history = record z { words = with_rows z.words (with_word z.words.rows frame word value); notes = slice_set z.notes page (record note { dirty = true }); history = history }

pub store_view : {W : ℕ} (z : Inside W) (v : ZoneState) (client : ℕ) (address : Address) (page frame word value : ℕ) (note : PageNote) (history : History) → Storing z v client address page frame word value note history → state_of (after_store z page frame word value note history) ≡ stored v client address word value
store_view z v client address page frame word value note history known =
    let dirty_note : PageNote = record note { dirty = true } in
    let within = slice_get_within z.notes page note known.note_is in
    let p = placements_kept z.notes page dirty_note within (sym (ap (option_and_then (λ (n : PageNote). n.placement)) known.note_is)) in
    let u = unmovable_kept z.notes page dirty_note within (sym (ap says_unmovable known.note_is)) in
    let free = known.sound.valid.pages.clear page frame (at_takes (map.get v.placement page) frame known.at) in
    let c = contents_kept z v known.sound known.view frame (slice_set (words_of z.words.rows frame) word value) free in
    let here : state_of (after_store z page frame word value note history) ≡ state_of (record z { history = history }) = λ i. record (state_of (record z { history = history })) { placement = p i; unmovable = u i; contents = c i; lent_pages = pages_lent z.words.lent (p i) (512 * z.size.blocks) } in
    here ∙ noted_view z v history (Store client address word value) known.view known.history_is

pub store_sound : {W : ℕ} (z : Inside W) (v : ZoneState) (client : ℕ) (address : Address) (page frame word value : ℕ) (note : PageNote) (history : History) → Storing z v client address page frame word value note history → IsSound (after_store z page frame word value note history) (stored v client address word value)
store_sound z v client address page frame word value note history known =
    let sound = known.sound in
    let spare = known.spare in
    record {
      valid = valid_stored v sound.valid known.spare client address word value;
      orders = sound.orders;
      cleared = sound.cleared;
      lent = sound.lent;
      tables = sound.tables;
      size = sound.size;
      marks = sound.marks;
      claimed = sound.claimed;
      frames = record { count = sound.frames.count; of_page = sound.frames.of_page; of_block = sound.frames.of_block; of_none = sound.frames.of_none };
      entries = record { each = sound.entries.each };
      words = stored_words z.words.rows v sound.valid sound.words client address page frame word value known.named known.at known.small;
      notes = stored_notes z.words.rows v sound.valid sound.words client address page frame word value known.named known.at known.small z.notes note sound.notes known.note_is;
      moves = record { isolated = sound.moves.isolated; moved = sound.moves.moved; back = sound.moves.back };
      movable = record { count = sound.movable.count; each = sound.movable.each };
      unmovable = record { count = sound.unmovable.count; each = sound.unmovable.each; rest = sound.unmovable.rest };
    }

pub store_holds : {W : ℕ} {z : Inside W} {v : ZoneState} {client : ℕ} {address : Address} {page frame word value : ℕ} {note : PageNote} {history : History} → Storing z v client address page frame word value note history →
    {rows : Words} {notes : List PageNote} → rows ≡ with_rows z.words (with_word z.words.rows frame word value) → notes ≡ slice_set z.notes page (record note { dirty = true }) → Becomes (record z { words = rows; notes = notes; history = history }) (stored v client address word value)
store_holds {z = z} {page = page} {frame = frame} {word = word} {value = value} {note = note} {history = history} known r n =
    becomes {ideal = after_store z page frame word value note history} (λ i. record z { words = r i; notes = n i; history = history }) (store_view _ _ _ _ _ _ _ _ _ _ known) (store_sound _ _ _ _ _ _ _ _ _ _ known)
