-- A page in use gets another place: the tables still stand for the zone.
use Rattle.std.proofs.Common.{◌≡◌, ◌≢◌, ℕ, ◌*◌, ◌<◌, ◌≤◌, Bool, true, false, not, List, ◌∷◌, length, inl, inr, refl, sym, ap, subst, ◌∙◌}
use Rattle.std.specs.Prelude.{Option, Some, None, is_some, slice_get, slice_set, nat_eq, ◌&&◌, ◌||◌}
use Rattle.std.specs.Option.{option_and_then}
use Rattle.std.specs.FinMap as map
use Rattle.std.proofs.lemmas.Bool.{eq-eqb}
use Rattle.std.proofs.lemmas.Bool.Decides.{eqb_tells}
use Rattle.std.proofs.lemmas.Option.{slice_get_within}
use Rattle.frame_core.specs.Address.{InRange}
use Rattle.frame_core.specs.declared.place.Address.{Address}
use Rattle.frame_core.specs.declared.state.FrameState.{FrameState}
use Rattle.frame_core.specs.declared.record.Record.{Record}
use Rattle.frame_core.specs.History.{page_at}
use Rattle.table_core.specs.declared.entry.Entry.TheVariants.{Absent}
use Rattle.table_core.specs.declared.entry.Entry.{Entry}
use Rattle.table_core.specs.Tables.{EntryTable, entry_at, Replaces}
use Rattle.frame_core.specs.Words.{words_of}
use Rattle.zone_tables.specs.declared.note.PageNote.{PageNote}
use Rattle.zone_tables.specs.declared.zone.ZoneTables.TheInside.{Inside}
use Rattle.state_core.specs.declared.placement.Placement.{Placement}
use Rattle.state_core.specs.declared.placement.Placement.TheVariants.{At, Moving}
use Rattle.zone_tables.specs.Fits.{UnmovableFit, LentFit, ClearedFit, entry_for, EntriesFit, NoteFits, NotesFit, MovesFit}
use Rattle.state_core.specs.ZoneState.{words_frame, ZoneState, frame_count, takes_up}
use Rattle.std.specs.FinSet as set
use Rattle.state_core.specs.Pairs.{can_move}
use Rattle.zone_tables.specs.Notes.{placement_of, is_unmovable_of, says_unmovable}
use Rattle.state_core.specs.Carrying.{relocated}
use Rattle.state_core.specs.Swept.{SweptIfQuiet}
use Rattle.zone_tables.specs.HandedOut.{order_of, is_lent_at}
use Rattle.zone_tables.specs.History.{told}
use Rattle.zone_tables.specs.Contents.{memory_of}
use Rattle.zone_tables.specs.Sound.{state_of, IsSound}
use Rattle.scan_core.specs.Frames.{true_at}
use Rattle.scan_core.specs.NumberSet.{gathered}
use Rattle.zone_tables.specs.Tabulated.{tabulated}
use Rattle.zone_tables.proofs.HeldWords.{held_contents}
use Rattle.zone_tables.proofs.SearchesAndCounts.{get_placements}
use Rattle.state_core.proofs.Facts.{takes_own}
use Rattle.state_core.proofs.Placed.{clash}
use Rattle.zone_tables.proofs.NotedPages.{unmovable_kept, placements_put}
use Rattle.zone_tables.proofs.UnmovablePages.{unmovable_moved}
use Rattle.zone_tables.proofs.Placement.{lent_fit, GetsPlace, LeavesOthers, FramesPlaced, MovablePlaced, WordsPlaced, frames_fit, movable_fit, words_fit, notes_fit}
use Rattle.frame_core.specs.FrameSet.{has_frame}
use Rattle.zone_tables.specs.LentPages.{has_words_lent, pages_lent}
use Rattle.zone_tables.proofs.LentBlocks.{free_unlent}
use Rattle.zone_tables.proofs.LentPages.{pages_put}
use Rattle.state_core.proofs.Settled.{CanSettle, IsRecorded, IsStill, at_page, at_other, not_old, valid_settled}

-- how the states of frames change with the place of a page in use, and what is noted of whether it may be taken
abbrev pub FramesSettled : List (FrameState ℕ) → List (FrameState ℕ) → ℕ → Placement → Placement → Type 0
FramesSettled frames changed page old new = FramesPlaced frames changed page (Some old) (Some new)

abbrev pub MovableSettled : List Bool → List Bool → Bool → Placement → Type 0
MovableSettled movable changed can new = MovablePlaced movable changed can (Some new)

-- the words of a page are in its new frame
pub record WordsSettled (size : ℕ) (rows settled : List (List ℕ)) (old new : Placement) : Type 0 where
  pub count : length settled ≡ length rows
  pub carried : words_of settled (words_frame new) ≡ words_of rows (words_frame old)
  pub kept : (frame : ℕ) → takes_up (Some new) frame ≡ false → words_of settled frame ≡ words_of rows frame
  pub sized : (frame : ℕ) → takes_up (Some new) frame ≡ true → length (words_of settled frame) ≡ size

-- of the addresses in range, each entry that was `from` is `to` now, and no other changed
pub record ReplacesInRange (old new : EntryTable) (from to : Entry) : Type 0 where
  pub there : (a : Address) → InRange a → entry_at old a ≡ from → entry_at new a ≡ to
  pub elsewhere : (a : Address) → InRange a → entry_at old a ≢ from → entry_at new a ≡ entry_at old a

pub in_range : {old new : EntryTable} {from to : Entry} → Replaces old new from to → ReplacesInRange old new from to
in_range change = record { there = λ a range. change.there a; elsewhere = λ a range. change.elsewhere a }

module _ (v : ZoneState) (page : ℕ) (old new : Placement) (can : CanSettle v page old new) (entry : Record) (still : IsStill v.records entry) where
  abbrev next : ZoneState
  next = relocated v entry page new

  some_entry : (p : Placement) → Absent ≢ entry_for (Some p)
  some_entry (At frame) e = cc
  some_entry (Moving serial source target) e = cc

  -- an entry of another page differs from that of this page
  other_entry : (q : ℕ) (p : Placement) → q ≢ page → map.get v.placement q ≡ Some p → (o : Placement) → o ≡ old → entry_for (Some p) ≢ entry_for (Some o)
  other_entry q (At f) ne at (At g) is e =
      let same : f ≡ g = cc in
      not_old v page old new can entry q f ne (ap (λ (o : Option Placement). takes_up o f) at ∙ eq-eqb f f refl) (ap (λ (o : Placement). takes_up (Some o) f) (sym is) ∙ eq-eqb f g same)
  other_entry q (At f) ne at (Moving serial source target) is e = cc
  other_entry q (Moving serial source target) ne at (At g) is e = cc
  other_entry q (Moving a source target) ne at (Moving b from to) is e =
      let same : source ≡ from = cc in
      let theirs = ap (λ (o : Option Placement). takes_up o source) at ∙ takes_own (Moving a source target) in
      let mine = ap (λ (o : Option Placement). takes_up o source) (can.at ∙ ap Some (sym is)) ∙ ap (λ b. b || nat_eq source to) (eq-eqb source from same) in
      ne (can.valid.pages.apart q page source theirs mine)

  entry_of : (entries : EntryTable) → EntriesFit entries v → (a : Address) → InRange a → (q : Option ℕ) → page_at v.records a ≡ q → entry_at entries a ≡ entry_for (option_and_then (map.get v.placement) q)
  entry_of entries fit a range q e = fit.each a range ∙ ap (λ (o : Option ℕ). entry_for (option_and_then (map.get v.placement) o)) e

  pub entries_settled : (entries changed : EntryTable) → EntriesFit entries v → ReplacesInRange entries changed (entry_for (Some old)) (entry_for (Some new)) → EntriesFit changed next
  entries_settled entries changed fit change = record { each = λ a range. by_name a range (page_at v.records a) refl ∙ sym (ap (λ (o : Option ℕ). entry_for (option_and_then (map.get next.placement) o)) (still.names a)) } where
    by_placement : (a : Address) → InRange a → (q : ℕ) → page_at v.records a ≡ Some q → q ≢ page → (p : Option Placement) → map.get v.placement q ≡ p → entry_at changed a ≡ entry_for (map.get next.placement q)
    by_placement a range q e ne None at = absurd (clash _ at (can.valid.agrees.named a q e).1)
    by_placement a range q e ne (Some p) at =
        let before : entry_at entries a ≡ entry_for (Some p) = entry_of entries fit a range (Some q) e ∙ ap entry_for at in
        change.elsewhere a range (λ is. other_entry q p ne at old refl (sym before ∙ is)) ∙ before ∙ sym (ap entry_for (at_other v page old new can entry q ne ∙ at))

    by_name : (a : Address) → InRange a → (q : Option ℕ) → page_at v.records a ≡ q → entry_at changed a ≡ entry_for (option_and_then (map.get next.placement) (page_at v.records a))
    by_name a range None e =
        let before : entry_at entries a ≡ Absent = entry_of entries fit a range None e in
        change.elsewhere a range (λ is. some_entry old (sym before ∙ is)) ∙ before ∙ sym (ap (λ (o : Option ℕ). entry_for (option_and_then (map.get next.placement) o)) e)
    by_name a range (Some q) e = elim (eqb_tells q page) [
      | inl same ↦
          change.there a range (entry_of entries fit a range (Some q) e ∙ ap (λ (p : ℕ). entry_for (map.get v.placement p)) same.1 ∙ ap entry_for can.at)
          ∙ sym (ap (λ (o : Option ℕ). entry_for (option_and_then (map.get next.placement) o)) e ∙ ap (λ (p : ℕ). entry_for (map.get next.placement p)) same.1 ∙ ap entry_for (at_page v page old new can entry))
      | inr other ↦ by_placement a range q e other.1 (map.get v.placement q) refl ∙ sym (ap (λ (o : Option ℕ). entry_for (option_and_then (map.get next.placement) o)) e)
    ]

-- the fields of a zone before and after a page was relocated
pub record Settling {W : ℕ} (z changed : Inside W) (v : ZoneState) (page : ℕ) (old new : Placement) (entry : Record) (note : PageNote) (migrate_new free_new : ℕ) : Type 0 where
  pub sound : IsSound z v
  pub view : state_of z ≡ v
  pub can : CanSettle v page old new
  pub recorded : IsRecorded v entry page new
  pub spare : 0 < v.room
  pub note_is : slice_get z.notes page ≡ Some note
  -- what changed with the page's place
  pub frames : FramesSettled z.frames.states changed.frames.states page old new
  pub tables : Replaces z.tables.entries changed.tables.entries (entry_for (Some old)) (entry_for (Some new))
  pub words : WordsSettled v.page_size z.words.rows changed.words.rows old new
  pub notes : changed.notes ≡ slice_set z.notes page (record note { placement = Some new })
  pub moves : MovesFit changed.moves (entry ∷ v.records)
  pub movable : MovableSettled z.frames.movable changed.frames.movable (can_move v page) new
  pub fixed : set.contains v.unmovable page ≡ false
  pub counts : changed.frames.unmovable ≡ z.frames.unmovable
  pub fingers_are : changed.fingers ≡ record { migrate = migrate_new; free = free_new }
  pub fingers : (migrate_new ≤ free_new) × (free_new ≤ frame_count v)
  pub swept : SweptIfQuiet (record (relocated v entry page new) { migrate = migrate_new; free = free_new })
  pub history : changed.history ≡ told z.history entry
  -- what stayed as it was
  pub frames_same : changed.tables.frames ≡ z.tables.frames
  pub size_same : changed.tables.entries.size ≡ z.tables.entries.size
  pub rest_same : record changed { frames = z.frames; tables = z.tables; words = z.words; notes = z.notes; moves = z.moves; fingers = z.fingers; history = z.history } ≡ z
  pub lent_same : changed.words.lent ≡ z.words.lent
  pub memory_same : memory_of changed.words ≡ memory_of z.words
  pub contents_same : held_contents changed ≡ held_contents z

module _ {W : ℕ} {z changed : Inside W} {v : ZoneState} {page : ℕ} {old new : Placement} {entry : Record} {note : PageNote} {migrate free : ℕ} (known : Settling z changed v page old new entry note migrate free) where
  abbrev after : ZoneState
  after = record (relocated v entry page new) { migrate = migrate; free = free }

  abbrev settled_note : PageNote
  settled_note = record note { placement = Some new }

  placement_before : placement_of z.notes page ≡ Some old
  placement_before = sym (get_placements z.notes page) ∙ ap (λ (u : ZoneState). map.get u.placement page) known.view ∙ known.can.at

  note_placed : note.placement ≡ Some old
  note_placed = sym (ap (option_and_then (λ (n : PageNote). n.placement)) known.note_is) ∙ placement_before

  gets : GetsPlace v after page (Some old) (Some new)
  gets = record {
    before = known.can.valid;
    after = valid_settled v page old new known.can entry known.recorded migrate free known.fingers known.swept;
    at = known.can.at;
    now = at_page v page old new known.can entry;
    others = at_other v page old new known.can entry;
    blocks = refl;
    size = refl;
    handed_out = refl;
    claimed = refl;
  }

  leaves : LeavesOthers v after page
  leaves =
      let still = known.recorded.still in
      record { last = λ q w ne. still.last q w; dirty = λ q ne. still.dirty q; pins = λ q ne. still.pins q; maps = λ q ne. still.maps q }

  words_changed : WordsPlaced z.words.rows changed.words.rows after page (Some new)
  words_changed = record {
    count = known.words.count;
    mine = λ placement w e small.
        (let is : placement ≡ new = cc in
        ap (λ (p : Placement). slice_get (words_of changed.words.rows (words_frame p)) w) is ∙ ap (λ (ws : List ℕ). slice_get ws w) known.words.carried
        ∙ known.sound.words.each page old w known.can.at small ∙ ap Some (sym (known.recorded.still.last page w)));
    kept = known.words.kept;
    sized = known.words.sized;
  }

  can_still : (q : ℕ) → can_move after q ≡ can_move v q
  can_still q = ap (λ n. nat_eq n 0 && not (set.contains v.unmovable q)) (known.recorded.still.pins q)

  note_fits : NoteFits settled_note after page
  note_fits =
      let was = known.sound.notes.each page note known.note_is (ap is_some note_placed) in
      let still = known.recorded.still in
      record { dirty = was.dirty ∙ sym (still.dirty page); pins = was.pins ∙ sym (still.pins page); maps = was.maps ∙ sym (still.maps page) }

  -- no frame of the page is lent, before and after
  had : (frame : ℕ) → takes_up (Some old) frame ≡ true → has_frame z.words.lent frame ≡ false
  had frame has = known.sound.lent.of_page page frame (ap (λ (o : Option Placement). takes_up o frame) known.can.at ∙ has) ∙ known.recorded.here

  vacant : (frame : ℕ) → takes_up (Some new) frame ≡ true → has_frame z.words.lent frame ≡ false
  vacant frame has = elim (known.can.takes frame has) [ inl was ↦ had frame was | inr free ↦ free_unlent z v known.sound frame free.0 ]

  pub settle_sound : IsSound changed after
  settle_sound =
      let sound = known.sound in
      let entries = entries_settled v page old new known.can entry known.recorded.still z.tables.entries changed.tables.entries sound.entries (in_range known.tables) in
      record {
        valid = gets.after;
        orders = ap (λ (y : Inside W). length y.handed_out) known.rest_same ∙ sound.orders;
        cleared = subst (λ (y : Inside W). ClearedFit y.cleared (frame_count v) v.lent) (sym known.rest_same) sound.cleared;
        tables = known.frames_same ∙ sound.tables;
        size = known.size_same ∙ sound.size;
        marks = ap (λ (y : Inside W). length y.marks) known.rest_same ∙ sound.marks;
        claimed = subst (λ (y : Inside W). frame_count v ≤ y.claimed.bound) (sym known.rest_same) sound.claimed;
        frames = frames_fit v after page (Some old) (Some new) gets z.frames.states changed.frames.states sound.frames known.frames;
        movable = movable_fit v after page (Some old) (Some new) gets z.frames.movable changed.frames.movable (can_move v page) sound.movable known.movable (sym (can_still page)) (λ q ne. can_still q);
        unmovable = subst (λ (counts : List ℕ). UnmovableFit counts after) (sym known.counts)
            (unmovable_moved v after page z.frames.unmovable sound.unmovable refl (λ q ne. refl) (at_other v page old new known.can entry) known.fixed known.fixed);
        entries = record { each = entries.each };
        words = words_fit v after page (Some old) (Some new) gets z.words.rows changed.words.rows sound.words words_changed leaves;
        lent = subst (λ (l : List Bool). LentFit l v.handed_out v.lent after.placement v.lent_pages) (sym known.lent_same) (lent_fit v after page (Some old) (Some new) gets z.words.lent sound.lent known.recorded.here vacant);
        notes = subst (λ (ns : List PageNote). NotesFit ns after) (sym known.notes)
            (notes_fit v after page (Some old) (Some new) gets z.notes settled_note (slice_get_within z.notes page note known.note_is) sound.notes (λ used. note_fits) leaves);
        moves = known.moves;
      }

  note_within : page < length z.notes
  note_within = slice_get_within z.notes page note known.note_is

  placement_new : tabulated (placement_of changed.notes) (length changed.notes) ≡ map.insert (state_of z).placement page new
  placement_new = ap (λ (ns : List PageNote). tabulated (placement_of ns) (length ns)) known.notes ∙ placements_put z.notes page settled_note note_within

  unmovable_new : gathered (is_unmovable_of changed.notes) (length changed.notes) ≡ (state_of z).unmovable
  unmovable_new =
      ap (λ (ns : List PageNote). gathered (is_unmovable_of ns) (length ns)) known.notes
      ∙ unmovable_kept z.notes page settled_note note_within (sym (ap says_unmovable known.note_is ∙ ap (λ (o : Option Placement). is_some o && note.unmovable) note_placed))

  -- the same pages are lent: this one isn't, before and after
  pages_new : (state_of changed).lent_pages ≡ (state_of z).lent_pages
  pages_new =
      (λ i. pages_lent (known.lent_same i) (placement_new i) (512 * (known.rest_same i).size.blocks))
      ∙ pages_put z.words.lent (state_of z).placement (512 * z.size.blocks) page (Some new)
      (ap (has_words_lent z.words.lent) (ap (λ (u : ZoneState). map.get u.placement page) known.view ∙ known.can.at) ∙ had (words_frame old) (takes_own old))
      (vacant (words_frame new) (takes_own new))

  pub settle_view : state_of changed ≡ after
  settle_view =
      let here : state_of changed ≡ record (relocated (state_of z) entry page new) { migrate = migrate; free = free } =
      λ i. record {
        number = (known.rest_same i).number;
        blocks = (known.rest_same i).size.blocks;
        spaces = (known.rest_same i).size.spaces;
        vpages = (known.rest_same i).size.vpages;
        page_size = W;
        records = (known.history i).records;
        room = (known.history i).room;
        unmovable = unmovable_new i;
        marked = gathered (true_at (known.rest_same i).marks) (length (known.rest_same i).marks);
        apart = (known.rest_same i).apart;
        claimed = (known.rest_same i).claimed.members;
        handed_out = tabulated (order_of (known.rest_same i).handed_out) (length (known.rest_same i).handed_out);
        contents = known.contents_same i;
        lent = gathered (is_lent_at (known.lent_same i) (known.rest_same i).handed_out) (length (known.rest_same i).handed_out);
        lent_pages = pages_new i;
        memory = known.memory_same i;
        placement = placement_new i;
        migrate = (known.fingers_are i).migrate;
        free = (known.fingers_are i).free;
        round = (known.history i).round;
      } in
      here ∙ ap (λ (u : ZoneState). record (relocated u entry page new) { migrate = migrate; free = free }) known.view

  -- the zone is sound in the state that is seen of it then
  pub settle_invariant : IsSound changed (state_of changed)
  settle_invariant = subst (IsSound changed) (sym settle_view) settle_sound
