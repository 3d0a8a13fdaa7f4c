-- The words of a page are lent, or come back: the tables still stand for the zone.
use Rattle.std.proofs.Common.{◌≡◌, ◌≢◌, ℕ, suc, ◌++◌, get_or, take, drop, ◌+◌, ◌*◌, ◌^◌, ◌<◌, ◌≤◌, ◌⊎◌, Bool, true, false, List, [], ◌∷◌, length, inl, inr, refl, sym, ap, subst, ◌∙◌, arith}
use Rattle.std.specs.Prelude.{Option, Some, None, IsTrue, is_none, is_some, slice_get, slice_set, unwrap_or, nat_eq, ◌&&◌, ◌||◌, if◌then◌else◌}
use Rattle.std.specs.FinMap as map
use Rattle.std.specs.FinSet as set
use Rattle.std.proofs.lemmas.Bool.{both_ways, eq-eqb, eqb-true, false_from_ne_true, leb-true}
use Rattle.std.proofs.lemmas.Bool.Decides.{eqb_tells, leb_tells}
use Rattle.std.proofs.lemmas.Grind.{drop-set_at}
use Rattle.std.proofs.lemmas.List.{append-nil, take_all, take-append-drop, take-set-le}
use Rattle.std.proofs.lemmas.List.Concat.{flat_map-cons}
use Rattle.std.proofs.lemmas.Nat.{pow_pos}
use Rattle.std.proofs.lemmas.Option.{unwrap_or-slice_get}
use Rattle.std.proofs.Math.Seq.{drop-cons}
use Rattle.frame_core.specs.FrameSet.{has_frame, HasNow}
use Rattle.frame_core.specs.History.{page_at, pins}
use Rattle.frame_core.specs.LentWords.{Words, with_rows}
use Rattle.frame_core.specs.Moves.{out}
use Rattle.frame_core.specs.Words.{HasBlock, block_words, joined, put_from, with_words, words_of}
use Rattle.frame_core.specs.declared.place.Address.{Address}
use Rattle.scan_core.specs.NumberSet.{gathered}
use Rattle.state_core.specs.Access.{is_page_lent}
use Rattle.state_core.specs.Lending.{page_lent, page_returned}
use Rattle.state_core.specs.Pinning.{pins_at}
use Rattle.state_core.specs.Valid.{IsValidZone}
use Rattle.state_core.specs.Bulk.{has_room_for, stored_all, values_at}
use Rattle.state_core.specs.ZoneState.{ZoneState, placement_at, takes_up, words_frame}
use Rattle.state_core.specs.declared.placement.Placement.{Placement}
use Rattle.state_core.specs.declared.placement.Placement.TheVariants.{At, Moving}
use Rattle.state_core.proofs.Facts.{frame_within, not_none, page_named, takes_own}
use Rattle.state_core.proofs.Holding.{at_takes}
use Rattle.state_core.proofs.HandingOut.{in_block_from}
use Rattle.state_core.proofs.Lending.{valid_page_back, valid_page_lent}
use Rattle.zone_tables.specs.Contents.{contents_at}
use Rattle.zone_tables.specs.Fits.{LentFit, WordsFit}
use Rattle.zone_tables.specs.HandedOut.{order_of, is_lent_at}
use Rattle.zone_tables.specs.History.{History, told_stores}
use Rattle.zone_tables.specs.LentPages.{IsLentNow, has_words_lent, pages_lent}
use Rattle.zone_tables.specs.Sound.{IsSound, state_of}
use Rattle.zone_tables.specs.Tabulated.{tabulated}
use Rattle.zone_tables.specs.declared.note.PageNote.{PageNote}
use Rattle.zone_tables.specs.declared.zone.ZoneTables.TheInside.{Inside}
use Rattle.zone_tables.proofs.BlockWords.{put_whole}
use Rattle.zone_tables.proofs.Facts.{Becomes, becomes, is_sound}
use Rattle.zone_tables.proofs.HeldWords.{held_contents, order_is}
use Rattle.zone_tables.proofs.LendingBlocks.{away_then, away_here, away_there, is_given}
use Rattle.zone_tables.proofs.LentBlocks.{off_blocks}
use Rattle.zone_tables.proofs.LoadsAndStores.{Resident}
use Rattle.zone_tables.proofs.Tables.{note_is, note_of}
use Rattle.zone_tables.proofs.LentPages.{lent_same}
use Rattle.zone_tables.proofs.Tabulating.{gathered_put, gathered_same}
use Rattle.zone_tables.proofs.WordsAtOnce.{Writing, stored_at_once, stores_hold, words_read}

-- one frame is a block
pub one_row : (rows : List (List ℕ)) (frame : ℕ) → frame < length rows → block_words rows frame 1 ≡ words_of rows frame
one_row rows frame within =
    ap (λ (rs : List (List ℕ)). joined (take 1 rs)) (drop-cons rows frame [] within)
    ∙ flat_map-cons (λ (r : List ℕ). r) (get_or rows frame []) [] ∙ append-nil (get_or rows frame []) ∙ sym (unwrap_or-slice_get rows frame [])

pub one_changed : (old new : List (List ℕ)) (frame : ℕ) (words : List ℕ) → frame < length old → HasBlock old new frame 1 words → new ≡ with_words old frame words
one_changed old new frame words within is =
    let inside : frame < length new = omega (arith, within, is.count) in
    let row : get_or new frame [] ≡ words = sym (unwrap_or-slice_get new frame []) ∙ sym (one_row new frame inside) ∙ is.here in
    let next : suc frame ≡ frame + 1 = omega arith in
    sym (take-append-drop frame new)
    ∙ ap (λ (rs : List (List ℕ)). rs ++ drop frame new) (is.before ∙ sym (take-set-le frame old frame words (omega arith)))
    ∙ ap (λ (rs : List (List ℕ)). take frame (with_words old frame words) ++ rs)
    (drop-cons new frame [] inside ∙ ap (λ (w : List ℕ). w ∷ drop (suc frame) new) row ∙ ap (λ (k : ℕ). words ∷ drop k new) next ∙ ap (λ (rs : List (List ℕ)). words ∷ rs) is.after
    ∙ sym (drop-set_at old frame frame words refl within))
    ∙ take-append-drop frame (with_words old frame words)

pub beside : (g frame : ℕ) → g ≢ frame → (g < frame) ⊎ (frame + 1 ≤ g)
beside g frame ne = elim (leb_tells (frame + 1) g) [ inl above ↦ inr above.1 | inr below ↦ inl (omega (arith, below.1, ne)) ]

-- the frame in which a page rests is lent, or comes back
pub frame_now : {old new : List Bool} {frame : ℕ} {goes : Bool} → HasNow old new frame 1 goes → IsLentNow old new (At frame) goes
frame_now {frame = frame} now = record {
  taken = λ g has. (let same : g ≡ frame = eqb-true g frame has in now.each g (omega (arith, same)) (omega (arith, same)));
  others = λ g off. now.others g (beside g frame (λ same. both_ways _ off (eq-eqb g frame same)));
}

-- the two frames of a moving page are lent, or come back, one after the other
pub frames_now : {old between new : List Bool} {serial source target : ℕ} {goes : Bool} → HasNow old between source 1 goes → HasNow between new target 1 goes → IsLentNow old new (Moving serial source target) goes
frames_now {source = source} {target = target} first second = record {
  taken = λ g has. elim (eqb_tells g target) [
    | inl same ↦ second.each g (omega (arith, same.1)) (omega (arith, same.1))
    | inr other ↦
        (let at_source : g ≡ source = eqb-true g source (or_left_of (nat_eq g source) (nat_eq g target) has other.0) in
        second.others g (beside g target other.1) ∙ first.each g (omega (arith, at_source)) (omega (arith, at_source)))
  ];
  others = λ g off.
      let neither = or_none (nat_eq g source) (nat_eq g target) off in
      second.others g (beside g target (λ same. both_ways _ neither.1 (eq-eqb g target same)))
      ∙ first.others g (beside g source (λ same. both_ways _ neither.0 (eq-eqb g source same)));
} where
  or_left_of : (a b : Bool) → (a || b) ≡ true → b ≡ false → a ≡ true
  or_left_of true b e off = refl
  or_left_of false b e off = absurd (both_ways _ off e)

  or_none : (a b : Bool) → (a || b) ≡ false → (a ≡ false) × (b ≡ false)
  or_none true b e = cc
  or_none false b e = (refl, e)

module _ {W : ℕ} (z : Inside W) (v : ZoneState) (sound : IsSound z v) (view : state_of z ≡ v) (page : ℕ) (place : Placement) (at : map.get v.placement page ≡ Some place) (given : Words) (rows : given.rows ≡ z.words.rows) (lies : (given.at ≡ z.words.at) × (given.given ≡ z.words.given)) (goes : Bool) (now : IsLentNow z.words.lent given.lent place goes) where
  -- the fields after that
  abbrev after : Inside W
  after = record z { words = given }

  abbrev next : ZoneState
  next = record v { lent_pages = away_then v.lent_pages page goes }

  taken : (g : ℕ) → takes_up (Some place) g ≡ true → takes_up (map.get v.placement page) g ≡ true
  taken g has = ap (λ (o : Option Placement). takes_up o g) at ∙ has

  -- a frame of another page is lent if it was
  other_frame : (q g : ℕ) → q ≢ page → takes_up (map.get v.placement q) g ≡ true → has_frame given.lent g ≡ has_frame z.words.lent g
  other_frame q g ne has = now.others g (false_from_ne_true _ (λ mine. ne (sound.valid.pages.apart q page g has (taken g mine))))

  block_frame : (first order g : ℕ) → map.get v.handed_out first ≡ Some order → first ≤ g → g < first + 2 ^ order → has_frame given.lent g ≡ has_frame z.words.lent g
  block_frame first order g held least most = now.others g (false_from_ne_true _ (λ mine. both_ways _ (off_blocks z v sound page g (taken g mine) first order held) (in_block_from first order g least most)))

  lent_fit : LentFit given.lent v.handed_out v.lent v.placement next.lent_pages
  lent_fit = record {
    of_block = λ first order held g least most. block_frame first order g held least most ∙ sound.lent.of_block first order held g least most;
    of_page = λ q g has. elim (eqb_tells q page) [
      | inl same ↦ now.taken g (ap (λ (o : Option Placement). takes_up o g) (sym at ∙ ap (map.get v.placement) (sym same.1)) ∙ has) ∙ sym (ap (set.contains next.lent_pages) same.1 ∙ away_here v.lent_pages page goes)
      | inr other ↦ other_frame q g other.1 has ∙ sound.lent.of_page q g has ∙ sym (away_there v.lent_pages page goes q other.1)
    ];
    others = λ g off none. now.others g (ap (λ (o : Option Placement). takes_up o g) (sym at) ∙ none page) ∙ sound.lent.others g off none;
  }

  blocks_same : gathered (is_lent_at given.lent z.handed_out) (length z.handed_out) ≡ gathered (is_lent_at z.words.lent z.handed_out) (length z.handed_out)
  blocks_same = gathered_same _ _ (length z.handed_out) (λ q. by q (order_of z.handed_out q) refl) where
    by : (q : ℕ) (o : Option ℕ) → order_of z.handed_out q ≡ o → is_lent_at given.lent z.handed_out q ≡ is_lent_at z.words.lent z.handed_out q
    by q None none = ap (λ (o : Option ℕ). is_some o && has_frame given.lent q) none ∙ sym (ap (λ (o : Option ℕ). is_some o && has_frame z.words.lent q) none)
    by q (Some o) held = ap (λ (lent : Bool). is_some (order_of z.handed_out q) && lent) (block_frame q o q (order_is z v sound view q o held) (omega arith) (omega (arith, pow_pos o)))

  -- what the fields say of placements
  placed : (q : ℕ) → map.get (state_of z).placement q ≡ map.get v.placement q
  placed q = ap (λ (u : ZoneState). map.get u.placement q) view

  past : (lent : List Bool) (q : ℕ) → 512 * z.size.blocks ≤ q → has_words_lent lent (map.get (state_of z).placement q) ≡ false
  past lent q h = by (map.get v.placement q) refl where
    by : (o : Option Placement) → map.get v.placement q ≡ o → has_words_lent lent (map.get (state_of z).placement q) ≡ false
    by None none = ap (has_words_lent lent) (placed q ∙ none)
    by (Some placement) some = absurd (omega (arith, h, sound.valid.pages.numbered q (not_none _ placement some), ap (λ (u : ZoneState). 512 * u.blocks) view))

  pages_put : pages_lent given.lent (state_of z).placement (512 * z.size.blocks) ≡ away_then (state_of z).lent_pages page goes
  pages_put =
      gathered_put (λ q. has_words_lent z.words.lent (map.get (state_of z).placement q)) (λ q. has_words_lent given.lent (map.get (state_of z).placement q)) (512 * z.size.blocks) page goes
      (past z.words.lent) (past given.lent)
      (ap (has_words_lent given.lent) (placed page ∙ at) ∙ now.taken (words_frame place) (takes_own place))
      (λ q ne. ap (has_words_lent given.lent) (placed q) ∙ lent_same z.words.lent given.lent (map.get v.placement q) (λ there is. other_frame q (words_frame there) ne (ap (λ (o : Option Placement). takes_up o (words_frame there)) is ∙ takes_own there)) ∙ sym (ap (has_words_lent z.words.lent) (placed q)))

  lent_view : state_of after ≡ next
  lent_view =
      let contents : tabulated (contents_at W given.rows z.cleared z.handed_out) (length z.handed_out) ≡ held_contents z = ap (λ (rs : List (List ℕ)). tabulated (contents_at W rs z.cleared z.handed_out) (length z.handed_out)) rows in
      let here : state_of after ≡ record (state_of z) { lent_pages = away_then (state_of z).lent_pages page goes } = λ i. record (state_of z) { contents = contents i; lent = blocks_same i; lent_pages = pages_put i; memory = if lies.1 i then Some (lies.0 i) else None } in
      here ∙ ap (λ (s : ZoneState). record s { lent_pages = away_then s.lent_pages page goes }) view

  lent_sound : IsValidZone next → IsSound after next
  lent_sound law = record {
    valid = law;
    orders = sound.orders;
    cleared = sound.cleared;
    marks = sound.marks;
    claimed = sound.claimed;
    frames = record { count = sound.frames.count; of_page = sound.frames.of_page; of_block = sound.frames.of_block; of_none = sound.frames.of_none };
    movable = record { count = sound.movable.count; each = sound.movable.each };
    unmovable = record { count = sound.unmovable.count; each = sound.unmovable.each; rest = sound.unmovable.rest };
    tables = sound.tables;
    size = sound.size;
    entries = record { each = sound.entries.each };
    words = (let fit = subst (λ (rs : List (List ℕ)). WordsFit rs v) (sym rows) sound.words in record { count = fit.count; sized = fit.sized; each = fit.each });
    lent = lent_fit;
    notes = record { count = sound.notes.count; each = λ q note e used. (let fit = sound.notes.each q note e used in record { dirty = fit.dirty; pins = fit.pins; maps = fit.maps }) };
    moves = record { isolated = sound.moves.isolated; moved = sound.moves.moved; back = sound.moves.back };
  }

  pub page_lent_holds : IsValidZone next → Becomes after next
  page_lent_holds law = becomes refl lent_view (lent_sound law)

-- the words of a page are lent, of which an address tells the frame
module _ {W : ℕ} {z : Inside W} {v : ZoneState} (view : state_of z ≡ v) (invariant : IsSound z (state_of z)) (address : Address) {frame : ℕ} (at : placement_at v address ≡ Some (At frame)) where
  pub lend_holds : 0 < pins_at v address → is_none v.memory ≡ false → (given : Words) → given.rows ≡ z.words.rows → (given.at ≡ z.words.at) × (given.given ≡ z.words.given) → HasNow z.words.lent given.lent frame 1 true → Becomes (record z { words = given }) (page_lent v address)
  lend_holds pinned lies given rows place now =
      let sound = is_sound view invariant in
      let page = page_named v address (At frame) at in
      let some : 0 < pins v.records page.0 = omega (arith, pinned, ap (λ (o : Option ℕ). pins v.records (unwrap_or o 0)) page.1) in
      subst (λ (o : Option ℕ). Becomes (record z { words = given }) (record v { lent_pages = set.insert v.lent_pages (unwrap_or o 0) })) (sym page.1)
      (page_lent_holds z v sound view page.0 (At frame) page.2 given rows place true (frame_now now)
      (valid_page_lent v sound.valid page.0 (record { used = not_none _ (At frame) page.2; pinned = λ other rests. some; lendable = is_given v.memory lies })))

  -- the row has the words of the page
  pub row_words : block_words z.words.rows frame 1 ≡ values_at v address 0 v.page_size
  row_words =
      let sound = is_sound view invariant in
      let page = page_named v address (At frame) at in
      let within = frame_within v sound.valid page.0 (At frame) page.2 in
      let many = sound.words.sized frame within in
      one_row z.words.rows frame (omega (arith, within, sound.words.count))
      ∙ sym (take_all v.page_size (words_of z.words.rows frame) (omega (arith, many)))
      ∙ words_read z v sound address frame 0 v.page_size at (omega arith)

-- what is known when the row of a page comes back: the journal has a place for a store of each word
pub record Returning {W : ℕ} (z : Inside W) (v : ZoneState) (address : Address) (page frame : ℕ) (note : PageNote) (given : Words) (words : List ℕ) : Type 0 where
  pub sound : IsSound z v
  pub view : state_of z ≡ v
  pub room : length (out v.records) + length words ≤ v.room
  pub named : page_at v.records address ≡ Some page
  pub at : map.get v.placement page ≡ Some (At frame)
  pub note_is : slice_get z.notes page ≡ Some note
  pub long : length words ≡ v.page_size
  pub place : (given.at ≡ z.words.at) × (given.given ≡ z.words.given)
  pub has : HasBlock z.words.rows given.rows frame 1 words
  pub now : HasNow z.words.lent given.lent frame 1 false

module _ {W : ℕ} (z : Inside W) (v : ZoneState) (client : ℕ) (address : Address) (page frame : ℕ) (note : PageNote) (given : Words) (words : List ℕ) (is : Returning z v address page frame note given words) where
  row_within : frame < length z.words.rows
  row_within = omega (arith, frame_within v is.sound.valid page (At frame) is.at, is.sound.words.count)

  row_long : length (words_of z.words.rows frame) ≡ v.page_size
  row_long = is.sound.words.sized frame (frame_within v is.sound.valid page (At frame) is.at)

  rows_are : given.rows ≡ with_words z.words.rows frame (put_from (words_of z.words.rows frame) 0 words)
  rows_are = one_changed z.words.rows given.rows frame words row_within is.has ∙ ap (with_words z.words.rows frame) (sym (put_whole (words_of z.words.rows frame) words (is.long ∙ sym row_long)))

  -- the frame isn't lent any more, and has the words that it had
  abbrev back_words : Words
  back_words = record z.words { lent = given.lent }

  abbrev back : ZoneState
  back = record v { lent_pages = set.remove v.lent_pages page }

  back_holds : Becomes (record z { words = back_words }) back
  back_holds = page_lent_holds z v is.sound is.view page (At frame) is.at back_words refl (refl, refl) false (frame_now is.now) (valid_page_back v is.sound.valid page)

  writing : Writing (record z { words = back_words }) back address page frame 0 note (length words)
  writing = record {
    sound = is_sound back_holds.1 back_holds.0;
    view = back_holds.1;
    room = is.room;
    named = is.named;
    at = is.at;
    within = omega (arith, is.long);
    note_is = is.note_is;
  }

  returned_is : stored_all back client address 0 words ≡ page_returned v client address words
  returned_is = ap (λ (o : Option ℕ). stored_all (record v { lent_pages = set.remove v.lent_pages (unwrap_or o 0) }) client address 0 words) (sym is.named)

  given_is : given ≡ with_rows back_words (with_words z.words.rows frame (put_from (words_of z.words.rows frame) 0 words))
  given_is = λ i. record { at = is.place.0 i; rows = rows_are i; lent = given.lent; given = is.place.1 i }

  pub page_returned_holds : 0 < length words → {notes : List PageNote} {history : History} → notes ≡ slice_set z.notes page (record note { dirty = true }) → history ≡ told_stores z.history client address 0 words → Becomes (record z { words = given; notes = notes; history = history }) (page_returned v client address words)
  page_returned_holds some {notes} {history} n h = subst (Becomes (record z { words = given; notes = notes; history = history })) returned_is (stores_hold (record z { words = back_words }) back client address page frame 0 note words some writing given_is n h)

  -- a page of no words comes back with no store
  pub none_returned_holds : length words ≡ 0 → Becomes (record z { words = given }) (page_returned v client address words)
  none_returned_holds none = subst (Becomes (record z { words = given })) (stays words none ∙ returned_is) (page_lent_holds z v is.sound is.view page (At frame) is.at given (rows_are ∙ same words none) is.place false (frame_now is.now) (valid_page_back v is.sound.valid page)) where
    stays : (ws : List ℕ) → length ws ≡ 0 → back ≡ stored_all back client address 0 ws
    stays [] e = refl
    stays (w ∷ ws) e = absurd (omega (arith, e))

    same : (ws : List ℕ) → length ws ≡ 0 → with_words z.words.rows frame (put_from (words_of z.words.rows frame) 0 ws) ≡ z.words.rows
    same [] e = sym (stored_at_once z.words.rows frame 0 [] row_within (omega arith))
    same (w ∷ ws) e = absurd (omega (arith, e))

-- the row of a page comes back, of which an address tells the frame
pub returning : {W : ℕ} {z : Inside W} {v : ZoneState} → state_of z ≡ v → IsSound z (state_of z) → {address : Address} {page frame : ℕ} → Resident z v address frame page → IsTrue (has_room_for v v.page_size) → {words : List ℕ} → length words ≡ v.page_size → {given : Words}
    → (given.at ≡ z.words.at) × (given.given ≡ z.words.given) → HasBlock z.words.rows given.rows frame 1 words → HasNow z.words.lent given.lent frame 1 false → Returning z v address page frame (note_of z page) given words
returning {z = z} {v = v} view invariant {page = page} its room long place has now = record {
  sound = is_sound view invariant;
  view = view;
  room = omega (arith, leb-true _ _ room, long);
  named = its.named;
  at = its.at;
  note_is = note_is z v (is_sound view invariant) page its.used;
  long = long;
  place = place;
  has = has;
  now = now;
}

-- a page is lent whose frame was
pub was_away : {W : ℕ} {z : Inside W} {v : ZoneState} → state_of z ≡ v → IsSound z (state_of z) → {address : Address} {page frame : ℕ} → Resident z v address frame page → has_frame z.words.lent frame ≡ true → is_page_lent v address ≡ true
was_away {v = v} view invariant {page = page} {frame = frame} its away =
    ap (λ (o : Option ℕ). set.contains v.lent_pages (unwrap_or o 0)) its.named ∙ sym ((is_sound view invariant).lent.of_page page frame (at_takes _ frame its.at)) ∙ away
