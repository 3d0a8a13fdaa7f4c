-- A fresh page in a free frame: the tables still stand for the zone.
use Rattle.std.proofs.Common.{◌≡◌, ◌≢◌, ℕ, ◌*◌, ◌/◌, ◌<◌, Bool, true, false, not, List, length, inl, inr, refl, sym, ap, ◌∙◌, arith}
use Rattle.std.specs.Prelude.{Option, Some, None, is_some, slice_get, slice_set, nat_eq, ◌&&◌, if◌then◌else◌}
use Rattle.std.specs.Option.{option_and_then}
use Rattle.std.specs.FinMap as map
use Rattle.std.specs.FinSet as set
use Rattle.std.proofs.lemmas.Bool.{eq-eqb, eqb-true, cases_Bool}
use Rattle.std.proofs.lemmas.Bool.Decides.{eqb_tells}
use Rattle.std.proofs.lemmas.List.{length-set, length-replicate}
use Rattle.frame_core.proofs.Lists.{slice_get_set_same, slice_get_set_other, slice_get_replicate}
use Rattle.frame_core.specs.declared.place.Address.{Address}
use Rattle.frame_core.specs.declared.state.FrameState.{FrameState}
use Rattle.frame_core.specs.declared.state.FrameState.TheVariants.{Holds}
use Rattle.frame_core.proofs.Maps.{no_test}
use Rattle.frame_core.specs.declared.record.Record.TheVariants.{Map}
use Rattle.frame_core.specs.History.{same_address, last, dirty}
use Rattle.zone_tables.specs.History.{History, told}
use Rattle.table_core.specs.declared.entry.Entry.TheVariants.{Present}
use Rattle.table_core.specs.Tables.{EntryTable, Tables, ChangesOnly}
use Rattle.frame_core.specs.Page.{blank_words}
use Rattle.frame_core.specs.LentWords.{Words, with_rows}
use Rattle.frame_core.specs.Words.{words_of, with_words}
use Rattle.zone_tables.specs.declared.note.PageNote.{PageNote}
use Rattle.zone_tables.specs.declared.zone.ZoneTables.TheInside.{Inside}
use Rattle.state_core.specs.declared.placement.Placement.{Placement}
use Rattle.state_core.specs.declared.placement.Placement.TheVariants.{At}
use Rattle.zone_tables.specs.Fits.{entry_for, FramesFit, EntriesFit, WordsFit, NotesFit, MovableFit, UnmovableFit}
use Rattle.state_core.specs.ZoneState.{words_frame, ZoneState, placement_at, takes_up}
use Rattle.state_core.specs.Pairs.{can_move}
use Rattle.state_core.proofs.Places.{unheld_frame}
use Rattle.state_core.proofs.Entries.{contains_insert_same, contains_insert_other}
use Rattle.zone_tables.specs.Notes.{placement_of, is_unmovable_of, says_unmovable}
use Rattle.zone_tables.specs.Sound.{state_of, IsSound}
use Rattle.state_core.specs.Mapping.{placed}
use Rattle.scan_core.specs.FrameCounts.{recounted}
use Rattle.scan_core.specs.NumberSet.{gathered}
use Rattle.zone_tables.proofs.HeldWords.{contents_kept}
use Rattle.zone_tables.proofs.LoadsAndStores.{words_set_same, words_set_other}
use Rattle.state_core.proofs.Facts.{chosen, taken, skipped}
use Rattle.zone_tables.proofs.SearchesAndCounts.{get_placements}
use Rattle.state_core.proofs.Placed.{CanPlace, untrue, clash, placed_valid, at_page, at_other, named_here, named_there, maps_one, maps_others, pins_none, pins_others}
use Rattle.zone_tables.proofs.Entries.{entries_changed, placement_same}
use Rattle.zone_tables.proofs.NotedPages.{unmovable_kept, placements_put, unmovable_put}
use Rattle.zone_tables.proofs.UnmovablePages.{unmovable_come}
use Rattle.zone_tables.proofs.Placement.{lent_fit, GetsPlace, LeavesOthers, frames_fit, movable_fit, words_fit, notes_fit}
use Rattle.zone_tables.proofs.Facts.{Becomes, becomes}
use Rattle.frame_core.specs.FrameSet.{has_frame}
use Rattle.zone_tables.specs.LentPages.{has_words_lent, pages_lent}
use Rattle.zone_tables.proofs.LentBlocks.{free_unlent}
use Rattle.zone_tables.proofs.LentPages.{pages_put}
use Rattle.state_core.proofs.Mapping.{fresh_here}
use Rattle.zone_tables.specs.Tabulated.{tabulated}
use Rattle.scan_core.specs.Frames.{Frames}

-- the note of the fresh page
abbrev pub fresh_note : Bool → ℕ → PageNote
fresh_note unmovable frame = record { placement = Some (At frame); unmovable = unmovable; dirty = false; pins = 0; maps = 1 }

module _ (v : ZoneState) (client : ℕ) (address : Address) (unmovable : Bool) (page frame : ℕ) (can : CanPlace v address page frame) where
  abbrev next : ZoneState
  next = placed v client address unmovable page frame

  pub gets : GetsPlace v next page None (Some (At frame))
  gets = record {
    before = can.valid;
    after = placed_valid v client address unmovable page frame can;
    at = can.unused;
    now = at_page v client address unmovable page frame can;
    others = at_other v client address unmovable page frame can;
    blocks = refl;
    size = refl;
    handed_out = refl;
    claimed = refl;
  }

  pub leaves : LeavesOthers v next page
  leaves = record {
    last = λ q w ne. skipped (nat_eq page q) 0 (last v.records q w) (no_test page q (λ x. ne (sym x)));
    dirty = λ q ne. ap (λ b. not b && dirty v.records q) (no_test page q (λ x. ne (sym x)));
    pins = pins_others v client address unmovable page frame can;
    maps = maps_others v client address unmovable page frame can;
  }

  away : (g : ℕ) → nat_eq g frame ≡ false → g ≢ frame
  away g e is = untrue _ e (eq-eqb g frame is)

  pub frames_placed : (frames : List (FrameState ℕ)) → FramesFit frames v → FramesFit (slice_set frames frame (Holds page)) next
  frames_placed frames fit = frames_fit v next page None (Some (At frame)) gets frames (slice_set frames frame (Holds page)) fit (record {
    count = length-set frames frame (Holds page);
    taken = λ g state e. elim (eqb_tells g frame) [
      | inl here ↦ slice_get_set_same frames frame g (Holds page) here.1 (omega (arith, can.within, fit.count)) ∙ sym (taken (nat_eq g frame) (Some (Holds page)) None here.0) ∙ e
      | inr off ↦ (let bad : None ≡ Some state = sym (skipped (nat_eq g frame) (Some (Holds page)) None off.0) ∙ e in cc)
    ];
    left = λ g had gone. cc;
    kept = λ g off gone. slice_get_set_other frames frame g (Holds page) (away g gone);
  })

  -- the placement of the page of each other address stays
  placement_there : (b : Address) → same_address b address ≡ false → placement_at next b ≡ placement_at v b
  placement_there b e = placement_same v next b (named_there v client address unmovable page frame can b e) (λ q is.
      at_other v client address unmovable page frame can q (λ same. clash _ can.unused (ap (λ (p : ℕ). is_some (map.get v.placement p)) (sym same) ∙ (can.valid.agrees.named b q is).1)))

  placement_here : (b : Address) → same_address b address ≡ true → placement_at next b ≡ Some (At frame)
  placement_here b e = ap (option_and_then (map.get next.placement)) (named_here v client address unmovable page frame can b e) ∙ at_page v client address unmovable page frame can

  pub entries_placed : (old new : EntryTable) → EntriesFit old v → ChangesOnly old new address (Present frame) → EntriesFit new next
  entries_placed old new fit changes = entries_changed v next old new address (Present frame) fit changes (λ b e. sym (ap entry_for (placement_here b e))) placement_there

  pub words_placed : (size : ℕ) → size ≡ v.page_size → (rows : List (List ℕ)) → WordsFit rows v → WordsFit (with_words rows frame (blank_words size)) next
  words_placed size same rows fit =
      let within : frame < length rows = omega (arith, can.within, fit.count) in
      let blank : words_of (with_words rows frame (blank_words size)) frame ≡ (blank_words size) = words_set_same rows frame (blank_words size) within in
      words_fit v next page None (Some (At frame)) gets rows (with_words rows frame (blank_words size)) fit (record {
        count = length-set rows frame (blank_words size);
        mine = λ placement w e small.
            (let here : placement ≡ At frame = cc in
            ap (λ (p : Placement). slice_get (words_of (with_words rows frame (blank_words size)) (words_frame p)) w) here
            ∙ ap (λ (ws : List ℕ). slice_get ws w) blank ∙ slice_get_replicate size w 0 (omega (arith, small, same)) ∙ ap Some (sym (chosen page 0 (last v.records page w))));
        kept = λ g gone. words_set_other rows frame g (blank_words size) (away g gone);
        sized = λ g has. elim (eqb_tells g frame) [
          | inl here ↦ ap (λ (f : ℕ). length (words_of (with_words rows frame (blank_words size)) f)) here.1 ∙ ap length blank ∙ length-replicate size 0 ∙ same
          | inr off ↦ absurd (untrue _ off.0 has)
        ];
      }) leaves

  pub notes_placed : (notes : List PageNote) → NotesFit notes v → NotesFit (slice_set notes page (fresh_note unmovable frame)) next
  notes_placed notes fit =
      notes_fit v next page None (Some (At frame)) gets notes (fresh_note unmovable frame) (omega (arith, can.numbered, fit.count)) fit (λ used. record {
        dirty = sym (ap (λ b. not b && dirty v.records page) (eq-eqb page page refl));
        pins = sym (pins_none v client address unmovable page frame can);
        maps = sym (maps_one v client address unmovable page frame can);
      }) leaves

  -- the fresh page is unmovable as it was mapped, and each other page as before
  never_used : set.contains v.unmovable page ≡ false
  never_used = elim (cases_Bool (set.contains v.unmovable page)) [ inl e ↦ absurd (clash _ can.unused (can.valid.pages.unmovable page e)) | inr none ↦ none ]

  unmovable_here : set.contains next.unmovable page ≡ unmovable
  unmovable_here = by unmovable where
    by : (b : Bool) → set.contains (if b then set.insert v.unmovable page else v.unmovable) page ≡ b
    by true = contains_insert_same v.unmovable page page refl
    by false = never_used

  unmovable_there : (q : ℕ) → q ≢ page → set.contains next.unmovable q ≡ set.contains v.unmovable q
  unmovable_there q ne = by unmovable where
    by : (b : Bool) → set.contains (if b then set.insert v.unmovable page else v.unmovable) q ≡ set.contains v.unmovable q
    by true = contains_insert_other v.unmovable page q ne
    by false = refl

  pub unmovable_placed : (counts : List ℕ) → UnmovableFit counts v → UnmovableFit (recounted false unmovable counts (frame / 512)) next
  unmovable_placed counts fit =
      unmovable_come v next page counts fit refl unmovable_there (at_other v client address unmovable page frame can) unmovable frame can.numbered can.within never_used unmovable_here (at_page v client address unmovable page frame can)

  movable_here : can_move next page ≡ not unmovable
  movable_here = λ i. nat_eq (pins_none v client address unmovable page frame can i) 0 && not (unmovable_here i)

  movable_there : (q : ℕ) → q ≢ page → can_move next q ≡ can_move v q
  movable_there q ne = λ i. nat_eq (pins_others v client address unmovable page frame can q ne i) 0 && not (unmovable_there q ne i)

  pub movable_placed : (movable : List Bool) → MovableFit movable v → MovableFit (slice_set movable frame (not unmovable)) next
  movable_placed movable fit = movable_fit v next page None (Some (At frame)) gets movable (slice_set movable frame (not unmovable)) (not unmovable) fit (record {
    count = length-set movable frame (not unmovable);
    here = λ g e. (let at : frame ≡ g = cc in slice_get_set_same movable frame g (not unmovable) (sym at) (omega (arith, can.within, fit.count)));
    kept = λ g gone. slice_get_set_other movable frame g (not unmovable) (away g gone);
  }) (sym movable_here) movable_there

-- what is known when a fresh page is placed
pub record Placing {W : ℕ} (z : Inside W) (v : ZoneState) (client : ℕ) (address : Address) (unmovable : Bool) (page frame : ℕ) (tables : Tables) (history : History) : Type 0 where
  pub sound : IsSound z v
  pub view : state_of z ≡ v
  pub can : CanPlace v address page frame
  pub tables_new : ChangesOnly z.tables.entries tables.entries address (Present frame)
  pub frames_same : tables.frames ≡ z.tables.frames
  pub size_same : tables.entries.size ≡ z.tables.entries.size
  pub history_is : history ≡ told z.history (Map client address page)

-- the fields of a zone after a fresh page was placed
abbrev after_place : {W : ℕ} → Inside W → Bool → ℕ → ℕ → Tables → History → Inside W
after_place {W} z unmovable page frame tables history = record z {
  frames = record { states = slice_set z.frames.states frame (Holds page); movable = slice_set z.frames.movable frame (not unmovable); unmovable = recounted false unmovable z.frames.unmovable (frame / 512) };
  tables = tables;
  words = with_rows z.words (with_words z.words.rows frame (blank_words W));
  notes = slice_set z.notes page (fresh_note unmovable frame);
  history = history;
}

movable_none : (o : Option PageNote) → option_and_then (λ (note : PageNote). note.placement) o ≡ None → says_unmovable o ≡ false
movable_none None e = refl
movable_none (Some note) e = ap (λ (o : Option Placement). is_some o && note.unmovable) e

module _ {W : ℕ} (z : Inside W) (v : ZoneState) (client : ℕ) (address : Address) (unmovable : Bool) (page frame : ℕ) (tables : Tables) (history : History) (known : Placing z v client address unmovable page frame tables history) where
  abbrev notes_new : List PageNote
  notes_new = slice_set z.notes page (fresh_note unmovable frame)

  -- the frame of the fresh page isn't lent, and it was in none before
  vacant : (g : ℕ) → takes_up (Some (At frame)) g ≡ true → has_frame z.words.lent g ≡ false
  vacant g has = ap (has_frame z.words.lent) (eqb-true g frame has) ∙ free_unlent z v known.sound frame known.can.free

  place_sound : IsSound (after_place z unmovable page frame tables history) (placed v client address unmovable page frame)
  place_sound =
      let sound = known.sound in
      let can = known.can in
      record {
        valid = placed_valid v client address unmovable page frame can;
        orders = sound.orders;
        cleared = sound.cleared;
        lent = lent_fit v (placed v client address unmovable page frame) page None (Some (At frame)) (gets v client address unmovable page frame can) z.words.lent sound.lent (fresh_here v client address unmovable page frame can) vacant;
        tables = known.frames_same ∙ sound.tables;
        size = known.size_same ∙ sound.size;
        marks = sound.marks;
        claimed = sound.claimed;
        frames = frames_placed v client address unmovable page frame can z.frames.states sound.frames;
        entries = entries_placed v client address unmovable page frame can z.tables.entries tables.entries sound.entries known.tables_new;
        words = words_placed v client address unmovable page frame can W (ap (λ (u : ZoneState). u.page_size) known.view) z.words.rows sound.words;
        notes = notes_placed v client address unmovable page frame can z.notes sound.notes;
        moves = record { isolated = sound.moves.isolated; moved = sound.moves.moved; back = sound.moves.back };
        movable = movable_placed v client address unmovable page frame can z.frames.movable sound.movable;
        unmovable = unmovable_placed v client address unmovable page frame can z.frames.unmovable sound.unmovable;
      }

  -- before the call the notes had no placement for the fresh page
  unused_before : placement_of z.notes page ≡ None
  unused_before = sym (get_placements z.notes page) ∙ ap (λ (u : ZoneState). map.get u.placement page) known.view ∙ known.can.unused

  note_within : page < length z.notes
  note_within = omega (arith, known.can.numbered, known.sound.notes.count)

  unmovable_new : (b : Bool) → unmovable ≡ b → gathered (is_unmovable_of notes_new) (length notes_new) ≡ (if b then set.insert (state_of z).unmovable page else (state_of z).unmovable)
  unmovable_new true is = unmovable_put z.notes page (fresh_note unmovable frame) note_within true is
  unmovable_new false is = unmovable_kept z.notes page (fresh_note unmovable frame) note_within (is ∙ sym (movable_none (slice_get z.notes page) unused_before))

  place_view : state_of (after_place z unmovable page frame tables history) ≡ placed v client address unmovable page frame
  place_view =
      let u = unmovable_new unmovable refl in
      let placed_there = placements_put z.notes page (fresh_note unmovable frame) note_within in
      let before : has_words_lent z.words.lent (map.get (state_of z).placement page) ≡ false = ap (has_words_lent z.words.lent) (ap (λ (u : ZoneState). map.get u.placement page) known.view ∙ known.can.unused) in
      let lent_there : pages_lent z.words.lent (tabulated (placement_of notes_new) (length notes_new)) (512 * z.size.blocks) ≡ (state_of z).lent_pages =
      (λ i. pages_lent z.words.lent (placed_there i) (512 * z.size.blocks)) ∙ pages_put z.words.lent (state_of z).placement (512 * z.size.blocks) page (Some (At frame)) before (vacant frame (eq-eqb frame frame refl)) in
      let c = contents_kept z v known.sound known.view frame (blank_words W) (unheld_frame v frame known.can.free) in
      let here : state_of (after_place z unmovable page frame tables history) ≡ placed (state_of z) client address unmovable page frame =
      λ i. record (state_of z) { records = (known.history_is i).records; room = (known.history_is i).room; round = (known.history_is i).round; placement = placed_there i; unmovable = u i; contents = c i; lent_pages = lent_there i } in
      here ∙ ap (λ (s : ZoneState). placed s client address unmovable page frame) known.view

  pub place_holds : {frames : Frames} {rows : Words} {notes : List PageNote} →
      frames ≡ record { states = slice_set z.frames.states frame (Holds page); movable = slice_set z.frames.movable frame (not unmovable); unmovable = recounted false unmovable z.frames.unmovable (frame / 512) } → rows ≡ with_rows z.words (with_words z.words.rows frame (blank_words W)) →
      notes ≡ notes_new → Becomes (record z { frames = frames; tables = tables; words = rows; notes = notes; history = history }) (placed v client address unmovable page frame)
  place_holds f r n =
      becomes {ideal = after_place z unmovable page frame tables history} (λ i. record z { frames = f i; tables = tables; words = r i; notes = n i; history = history }) place_view place_sound
