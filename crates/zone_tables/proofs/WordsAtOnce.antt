-- A read and a write of several words leave a zone sound, as loads and stores one after the other do.
use Rattle.std.proofs.Common.{◌≡◌, ℕ, zero, suc, ◌+◌, ◌-◌, ◌<◌, ◌≤◌, true, List, [], ◌∷◌, ◌++◌, length, take, drop, refl, sym, ap, ◌∙◌, arith, map as each}
use Rattle.std.specs.Prelude.{Option, Some, slice_get, slice_set, unwrap_or}
use Rattle.std.specs.FinMap as map
use Rattle.std.specs.List.{range_with_len}
use Rattle.std.proofs.lemmas.List.{append_assoc, append-nil, length-set, set-set, set-get_or, take_more_set, take-append-drop, drop-set-lt}
use Rattle.std.proofs.lemmas.List.FromFn.{take-map-range_with_len}
use Rattle.std.proofs.lemmas.Option.{slice_get_within, unwrap_or-slice_get}
use Rattle.frame_core.proofs.Lists.{slice_get_set_same}
use Rattle.frame_core.specs.declared.place.Address.{Address}
use Rattle.frame_core.specs.declared.record.Record.TheVariants.{Load, Store}
use Rattle.frame_core.specs.History.{page_at, last}
use Rattle.frame_core.specs.Moves.{out}
use Rattle.frame_core.specs.LentWords.{Words, with_rows}
use Rattle.frame_core.specs.Words.{words_of, words_from, put_from, with_word, with_words}
use Rattle.state_core.specs.declared.placement.Placement.TheVariants.{At}
use Rattle.state_core.specs.Access.{value_at, loaded, stored}
use Rattle.state_core.specs.Bulk.{values_at, loaded_all, stored_all}
use Rattle.state_core.specs.ZoneState.{ZoneState, placement_at}
use Rattle.state_core.proofs.Facts.{frame_within, page_named}
use Rattle.zone_tables.specs.declared.note.PageNote.{PageNote}
use Rattle.zone_tables.specs.declared.zone.ZoneTables.TheInside.{Inside}
use Rattle.zone_tables.specs.History.{told, told_loads, told_stores, History}
use Rattle.zone_tables.specs.Sound.{IsSound, state_of}
use Rattle.zone_tables.proofs.Facts.{noted_view, Becomes, becomes}
use Rattle.zone_tables.proofs.LoadsAndStores.{Storing, after_store, store_sound, store_view, loaded_sound, words_set_same}
use Rattle.zone_tables.proofs.Tables.{words_seen}

-- what is known when words are read: the journal has this many places to spare, and the page is in a frame
pub record Reading {W : ℕ} (z : Inside W) (v : ZoneState) (address : Address) (frame count : ℕ) : Type 0 where
  pub sound : IsSound z v
  pub view : state_of z ≡ v
  pub room : length (out v.records) + count ≤ v.room
  pub at : placement_at v address ≡ Some (At frame)

-- the fields of a zone after a read
abbrev pub after_loads : {W : ℕ} → Inside W → ZoneState → ℕ → Address → ℕ → ℕ → Inside W
after_loads z v client address from count = record z { history = told_loads z.history client address from (values_at v address from count) }

-- and after its first load
abbrev one_loaded : {W : ℕ} → Inside W → ZoneState → ℕ → Address → ℕ → Inside W
one_loaded z v client address from = record z { history = told z.history (Load client address from (value_at v address from)) }

first_load : {W : ℕ} (z : Inside W) (v : ZoneState) (client : ℕ) (address : Address) (frame from count : ℕ) → Reading z v address frame (suc count) → Reading (one_loaded z v client address from) (loaded v client address from) address frame count
first_load z v client address frame from count is = record {
  sound = loaded_sound z v is.sound (told z.history (Load client address from (value_at v address from))) client address frame from is.at (omega (arith, is.room));
  view = noted_view z v _ (Load client address from (value_at v address from)) is.view refl;
  room = omega (arith, is.room);
  at = is.at;
}

pub loads_hold : {W : ℕ} (z : Inside W) (v : ZoneState) (client : ℕ) (address : Address) (frame from count : ℕ) → Reading z v address frame count → IsSound (after_loads z v client address from count) (loaded_all v client address from count) × (state_of (after_loads z v client address from count) ≡ loaded_all v client address from count)
loads_hold z v client address frame from zero is = (is.sound, is.view)
loads_hold z v client address frame from (suc count) is =
    loads_hold (one_loaded z v client address from) (loaded v client address from) client address frame (from + 1) count (first_load z v client address frame from count is)

-- what f has of the numbers from a first one on, without the first k
dropped : (f : ℕ → ℕ) (first k n : ℕ) → drop k (each f (range_with_len first (k + n))) ≡ each f (range_with_len (first + k) n)
dropped f first zero n =
    let count : 0 + n ≡ n = omega arith in
    let from : first ≡ first + 0 = omega arith in
    λ i. each f (range_with_len (from i) (count i))
dropped f first (suc k) n =
    let count : suc k + n ≡ suc (k + n) = omega arith in
    let from : first + 1 + k ≡ first + suc k = omega arith in
    ap (λ (m : ℕ). drop (suc k) (each f (range_with_len first m))) count
    ∙ dropped f (first + 1) k n ∙ ap (λ (m : ℕ). each f (range_with_len m n)) from

-- the words that are read are the last values stored
pub words_read : {W : ℕ} (z : Inside W) (v : ZoneState) → IsSound z v → (address : Address) (frame from count : ℕ) → placement_at v address ≡ Some (At frame) → from + count ≤ v.page_size → words_from z.words.rows frame from count ≡ values_at v address from count
words_read z v sound address frame from count at within =
    let page = page_named v address (At frame) at in
    let rest : from + (v.page_size - from) ≡ v.page_size = omega arith in
    let first : 0 + from ≡ from = omega arith in
    let f = last v.records page.0 in
    ap (λ (ws : List ℕ). take count (drop from ws)) (words_seen z.words.rows v sound.words sound.valid page.0 (At frame) page.2)
    ∙ ap (λ (n : ℕ). take count (drop from (each f (range_with_len 0 n)))) (sym rest)
    ∙ ap (take count) (dropped f 0 from (v.page_size - from))
    ∙ ap (λ (n : ℕ). take count (each f (range_with_len n (v.page_size - from)))) first
    ∙ take-map-range_with_len f from (v.page_size - from) count (omega arith)
    ∙ ap (λ (o : Option ℕ). each (last v.records (unwrap_or o 0)) (range_with_len from count)) (sym page.1)

-- the words after values were stored in a frame one after the other, from one word on
abbrev stored_each : List (List ℕ) → ℕ → ℕ → List ℕ → List (List ℕ)
stored_each rows frame from [] = rows
stored_each rows frame from (value ∷ values) = stored_each (with_word rows frame from value) frame (from + 1) values

-- values that are put into a row one after the other are put at once
one_more : (row : List ℕ) (from value : ℕ) (values : List ℕ) → from < length row → put_from (slice_set row from value) (from + 1) values ≡ put_from row from (value ∷ values)
one_more row from value values within =
    let places : from + 1 + length values ≡ from + length (value ∷ values) = omega arith in
    ap (λ (front : List ℕ). front ++ values ++ drop (from + 1 + length values) (slice_set row from value)) (take_more_set row from value within)
    ∙ ap (λ (rest : List ℕ). take from row ++ (value ∷ []) ++ values ++ rest) (drop-set-lt (from + 1 + length values) row from value (omega arith) ∙ ap (λ (n : ℕ). drop n row) places)
    ∙ ap (λ (front : List ℕ). front ++ drop (from + length (value ∷ values)) row) (append_assoc (take from row) (value ∷ []) values)

pub stored_at_once : (rows : List (List ℕ)) (frame from : ℕ) (values : List ℕ) → frame < length rows → from + length values ≤ length (words_of rows frame) → stored_each rows frame from values ≡ with_words rows frame (put_from (words_of rows frame) from values)
stored_at_once rows frame from [] here within =
    let row = words_of rows frame in
    let none : from + 0 ≡ from = omega arith in
    sym (ap (λ (front : List ℕ). slice_set rows frame (front ++ drop (from + 0) row)) (append-nil (take from row))
    ∙ ap (λ (n : ℕ). slice_set rows frame (take from row ++ drop n row)) none
    ∙ ap (slice_set rows frame) (take-append-drop from row ∙ unwrap_or-slice_get rows frame [])
    ∙ set-get_or rows frame [])
stored_at_once rows frame from (value ∷ values) here within =
    let row = words_of rows frame in
    let next = slice_set row from value in
    let row_is = words_set_same rows frame next here in
    stored_at_once (with_word rows frame from value) frame (from + 1) values (omega (arith, length-set rows frame next)) (omega (arith, ap length row_is, length-set row from value))
    ∙ set-set rows frame next _
    ∙ ap (λ (ws : List ℕ). slice_set rows frame (put_from ws (from + 1) values)) row_is
    ∙ ap (slice_set rows frame) (one_more row from value values (omega arith))

-- what is known when words are written: the journal has this many places to spare, and the words are in the page
pub record Writing {W : ℕ} (z : Inside W) (v : ZoneState) (address : Address) (page frame from : ℕ) (note : PageNote) (count : ℕ) : Type 0 where
  pub sound : IsSound z v
  pub view : state_of z ≡ v
  pub room : length (out v.records) + count ≤ v.room
  pub named : page_at v.records address ≡ Some page
  pub at : map.get v.placement page ≡ Some (At frame)
  pub within : from + count ≤ v.page_size
  pub note_is : slice_get z.notes page ≡ Some note

-- the fields of a zone after a write, one store after the other
abbrev after_each : {W : ℕ} → Inside W → ℕ → Address → ℕ → ℕ → ℕ → PageNote → List ℕ → Inside W
after_each z client address page frame from note [] = z
after_each z client address page frame from note (value ∷ values) =
    after_each (after_store z page frame from value note (told z.history (Store client address from value))) client address page frame (from + 1) (record note { dirty = true }) values

storing_first : {W : ℕ} (z : Inside W) (v : ZoneState) (client : ℕ) (address : Address) (page frame from value count : ℕ) (note : PageNote) → Writing z v address page frame from note (suc count) → Storing z v client address page frame from value note (told z.history (Store client address from value))
storing_first z v client address page frame from value count note is = record {
  sound = is.sound;
  view = is.view;
  spare = omega (arith, is.room);
  named = is.named;
  at = is.at;
  small = omega (arith, is.within);
  note_is = is.note_is;
  history_is = refl;
}

first_store : {W : ℕ} (z : Inside W) (v : ZoneState) (client : ℕ) (address : Address) (page frame from value count : ℕ) (note : PageNote) → Writing z v address page frame from note (suc count) → Writing (after_store z page frame from value note (told z.history (Store client address from value))) (stored v client address from value) address page frame (from + 1) (record note { dirty = true }) count
first_store z v client address page frame from value count note is =
    let known = storing_first z v client address page frame from value count note is in
    record {
      sound = store_sound z v client address page frame from value note _ known;
      view = store_view z v client address page frame from value note _ known;
      room = omega (arith, is.room);
      named = is.named;
      at = is.at;
      within = omega (arith, is.within);
      note_is = slice_get_set_same z.notes page page (record note { dirty = true }) refl (slice_get_within z.notes page note is.note_is);
    }

each_hold : {W : ℕ} (z : Inside W) (v : ZoneState) (client : ℕ) (address : Address) (page frame from : ℕ) (note : PageNote) (values : List ℕ) → Writing z v address page frame from note (length values) → IsSound (after_each z client address page frame from note values) (stored_all v client address from values) × (state_of (after_each z client address page frame from note values) ≡ stored_all v client address from values)
each_hold z v client address page frame from note [] is = (is.sound, is.view)
each_hold z v client address page frame from note (value ∷ values) is =
    each_hold (after_store z page frame from value note (told z.history (Store client address from value))) (stored v client address from value) client address page frame (from + 1) (record note { dirty = true }) values (first_store z v client address page frame from value (length values) note is)

-- the fields of a zone after a write, all stores at once
abbrev after_stores : {W : ℕ} → Inside W → ℕ → Address → ℕ → ℕ → ℕ → PageNote → List ℕ → Inside W
after_stores z client address page frame from note values = record z {
  words = with_rows z.words (with_words z.words.rows frame (put_from (words_of z.words.rows frame) from values));
  notes = slice_set z.notes page (record note { dirty = true });
  history = told_stores z.history client address from values;
}

-- they are the same where there is a store
each_is : {W : ℕ} (z : Inside W) (client : ℕ) (address : Address) (page frame from : ℕ) (note : PageNote) (value : ℕ) (values : List ℕ) → after_each z client address page frame from note (value ∷ values) ≡ record z {
  words = with_rows z.words (stored_each z.words.rows frame from (value ∷ values));
  notes = slice_set z.notes page (record note { dirty = true });
  history = told_stores z.history client address from (value ∷ values);
}
each_is z client address page frame from note value [] = refl
each_is z client address page frame from note value (next ∷ values) =
    let dirty : PageNote = record note { dirty = true } in
    let there = after_store z page frame from value note (told z.history (Store client address from value)) in
    each_is there client address page frame (from + 1) dirty next values
    ∙ ap (λ (notes : List PageNote). record z { words = with_rows z.words (stored_each z.words.rows frame from (value ∷ next ∷ values)); notes = notes; history = told_stores z.history client address from (value ∷ next ∷ values) }) (set-set z.notes page dirty dirty)

-- the frame has a row, and the words are in it
resident_within : {W : ℕ} (z : Inside W) (v : ZoneState) {address : Address} {page frame from : ℕ} {note : PageNote} {count : ℕ} → Writing z v address page frame from note count → (frame < length z.words.rows) × (from + count ≤ length (words_of z.words.rows frame))
resident_within z v {address} {page} {frame} is =
    let within = frame_within v is.sound.valid page (At frame) is.at in
    (omega (arith, within, is.sound.words.count), omega (arith, is.within, is.sound.words.sized frame within))

each_at_once : {W : ℕ} (z : Inside W) (v : ZoneState) (client : ℕ) (address : Address) (page frame from : ℕ) (note : PageNote) (values : List ℕ) → 0 < length values → Writing z v address page frame from note (length values) → after_each z client address page frame from note values ≡ after_stores z client address page frame from note values
each_at_once z v client address page frame from note [] some is = absurd (omega (arith, some))
each_at_once z v client address page frame from note (value ∷ values) some is =
    let within = resident_within z v is in
    each_is z client address page frame from note value values
    ∙ ap (λ (rows : List (List ℕ)). record z { words = with_rows z.words rows; notes = slice_set z.notes page (record note { dirty = true }); history = told_stores z.history client address from (value ∷ values) })
    (stored_at_once z.words.rows frame from (value ∷ values) within.0 within.1)

-- a write leaves the zone as stores one after the other do
module _ {W : ℕ} (z : Inside W) (v : ZoneState) (client : ℕ) (address : Address) (page frame from : ℕ) (note : PageNote) (values : List ℕ) (some : 0 < length values) (is : Writing z v address page frame from note (length values)) where
  pub stores_hold : {rows : Words} {notes : List PageNote} {history : History} → rows ≡ with_rows z.words (with_words z.words.rows frame (put_from (words_of z.words.rows frame) from values)) → notes ≡ slice_set z.notes page (record note { dirty = true }) →
      history ≡ told_stores z.history client address from values → Becomes (record z { words = rows; notes = notes; history = history }) (stored_all v client address from values)
  stores_hold r n h =
      let known = each_hold z v client address page frame from note values is in
      becomes {ideal = after_each z client address page frame from note values}
      ((λ i. record z { words = r i; notes = n i; history = h i }) ∙ sym (each_at_once z v client address page frame from note values some is)) known.1 known.0
