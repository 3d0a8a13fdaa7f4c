-- A page that rests in a frame goes to a free one at once: the tables still stand for the zone.
use Rattle.std.proofs.Common.{◌≡◌, ◌≢◌, ℕ, ◌*◌, ◌+◌, ◌-◌, ◌<◌, ◌≤◌, ◌^◌, true, false, List, ◌∷◌, length, inl, inr, refl, sym, ap, subst, ◌∙◌, arith}
use Rattle.std.specs.Prelude.{Option, Some, None, is_some, slice_get, slice_set, ◌&&◌}
use Rattle.std.specs.Option.{option_and_then}
use Rattle.std.specs.FinMap as map
use Rattle.std.specs.FinSet as set
use Rattle.std.specs.Ordering.{nat_cmp}
use Rattle.std.proofs.lemmas.Bool.{both_ways, cases_Bool, eq-eqb, eqb-true, ne_eqb, or_from, or_left}
use Rattle.std.proofs.lemmas.Option.{slice_get_within}
use Rattle.frame_core.proofs.Ends.{is_balanced}
use Rattle.frame_core.specs.Address.{InRange}
use Rattle.frame_core.specs.declared.place.Address.{Address}
use Rattle.frame_core.specs.declared.record.Record.TheVariants.{Isolate, Moved}
use Rattle.frame_core.specs.declared.state.FrameState.TheVariants.{Free, Holds}
use Rattle.frame_core.specs.History.{page_at}
use Rattle.frame_core.specs.Moves.{isolated}
use Rattle.frame_core.specs.LentWords.{IsHere, Words, with_rows}
use Rattle.frame_core.specs.Words.{words_of, with_words}
use Rattle.scan_core.specs.Frames.{Frames, free_at, holds_at, is_holding_state, true_at}
use Rattle.scan_core.specs.NumberSet.{gathered}
use Rattle.table_core.specs.declared.entry.Entry.{Entry}
use Rattle.table_core.specs.declared.entry.Entry.TheVariants.{Present, Migration}
use Rattle.table_core.specs.Tables.{EntryTable, entry_at, is_listed, Replaces}
use Rattle.state_core.specs.declared.placement.Placement.{Placement}
use Rattle.state_core.specs.declared.placement.Placement.TheVariants.{At, Moving}
use Rattle.state_core.specs.Isolating.{isolate_refusal}
use Rattle.state_core.specs.Pairs.{can_move}
use Rattle.state_core.specs.ZoneState.{ZoneState, frame_count, is_used, takes_up, words_frame}
use Rattle.state_core.proofs.Facts.{frame_within, isolated_bound, room_for_two as has_two}
use Rattle.state_core.proofs.Holding.{at_takes}
use Rattle.state_core.proofs.Places.{unheld_frame}
use Rattle.state_core.proofs.Settled.{isolate_still}
use Rattle.fewest_core.specs.Evacuation.{moved_away}
use Rattle.fewest_core.specs.FewestMoves.{Move, IsMove}
use Rattle.fewest_core.proofs.Evacuation.{can_settle, move_here, placement_after, target_free, valid_moved_away}
use Rattle.fewest_core.proofs.Moves.{target_not_source, free_unused, others_same, page_there}
use Rattle.zone_tables.specs.declared.note.PageNote.{PageNote}
use Rattle.zone_tables.specs.declared.zone.ZoneTables.TheInside.{Inside}
use Rattle.zone_tables.specs.Fits.{UnmovableFit, LentFit, ClearedFit, entry_for, EntriesFit, MovesFit, NoteFits, NotesFit}
use Rattle.zone_tables.specs.HandedOut.{order_of, is_lent_at}
use Rattle.zone_tables.specs.History.{told}
use Rattle.zone_tables.specs.Moves.{Moves}
use Rattle.zone_tables.specs.Notes.{placement_of, is_unmovable_of, says_unmovable}
use Rattle.zone_tables.specs.Sound.{state_of, IsSound}
use Rattle.zone_tables.specs.Tabulated.{tabulated}
use Rattle.zone_tables.specs.Contents.{contents_at, memory_of}
use Rattle.zone_tables.proofs.Facts.{held_by, is_sound}
use Rattle.zone_tables.proofs.HeldWords.{contents_kept, held_contents}
use Rattle.zone_tables.proofs.LentBlocks.{free_here, free_unlent, words_here}
use Rattle.zone_tables.proofs.LentPages.{pages_put}
use Rattle.zone_tables.proofs.ListedAddresses.{names_of, none_listed, page_rests}
use Rattle.zone_tables.proofs.MoveEnds.{kept_movable, moved_frames, moved_words, still_free}
use Rattle.zone_tables.proofs.NotedPages.{placements_put, unmovable_kept}
use Rattle.zone_tables.proofs.UnmovablePages.{movable_only, unmovable_moved}
use Rattle.zone_tables.proofs.Placement.{lent_fit, FramesPlaced, GetsPlace, LeavesOthers, MovablePlaced, WordsPlaced, frames_fit, movable_fit, notes_fit, words_fit}
use Rattle.zone_tables.proofs.Relocation.{ReplacesInRange, WordsSettled, entries_settled}
use Rattle.frame_core.specs.FrameSet.{has_frame}
use Rattle.zone_tables.specs.LentPages.{has_words_lent, pages_lent}
use Rattle.zone_tables.proofs.SearchesAndCounts.{free_seen, get_placements}

-- an entry that becomes another one, and then a third, becomes the third
replaced_twice : (a b c : EntryTable) (from way to : Entry) → ((address : Address) → InRange address → entry_at a address ≢ way) → Replaces a b from way → Replaces b c way to → ReplacesInRange a c from to
replaced_twice a b c from way to fresh first second = record {
  there = λ address range is. second.there address (first.there address is);
  elsewhere = λ address range other. (let same = first.elsewhere address other in second.elsewhere address (λ is. fresh address range (sym same ∙ is)) ∙ same);
}

-- what is known of the page before it goes
module _ {W : ℕ} {z : Inside W} {v : ZoneState} (view : state_of z ≡ v) (invariant : IsSound z (state_of z)) (m : Move) (is : IsMove v m) (accepted : isolate_refusal v ≡ None) where
  sound : IsSound z v
  sound = is_sound view invariant

  source_in : m.source < frame_count v
  source_in = frame_within v sound.valid m.page (At m.source) is.here

  pub apart : m.source ≢ m.target
  apart same = target_not_source v m is (sym same)

  unused : is_used v m.target ≡ false
  unused = free_unused v m.target is.vacant

  pub source_row : m.source < length z.words.rows
  source_row = omega (arith, source_in, sound.words.count)

  pub target_row : m.target < length z.words.rows
  target_row = omega (arith, is.within, sound.words.count)

  pub source_here : IsHere z.words m.source 1
  source_here = words_here z v sound m.page (At m.source) is.here (move_here v m sound.valid is)

  pub target_here : IsHere z.words m.target 1
  target_here = free_here z v sound m.target (target_free v m sound.valid is)

  pub source_listed : m.source < z.tables.frames
  source_listed = omega (arith, source_in, sound.tables)

  pub target_listed : m.target < z.tables.frames
  target_listed = omega (arith, is.within, sound.tables)

  pub serial_left : z.moves.isolated < 2 ^ 64 - 1
  serial_left = omega (arith, isolated_bound v sound.valid, sound.moves.isolated)

  pub room_for_two : 1 < z.history.room
  room_for_two = omega (arith, has_two v accepted, ap (λ (u : ZoneState). u.room) view)

  -- one page more is isolated than moves have ended
  pub some_moving : (moves : Moves) → moves ≡ record z.moves { isolated = z.moves.isolated + 1 } → moves.moved + moves.back < moves.isolated
  some_moving moves now =
      let fewer : z.moves.moved + z.moves.back ≤ z.moves.isolated = omega (arith, is_balanced v.records sound.valid.journal.well_ended, sound.moves.isolated, sound.moves.moved, sound.moves.back) in
      omega (arith, fewer, ap (λ (ms : Moves). ms.moved) now, ap (λ (ms : Moves). ms.back) now, ap (λ (ms : Moves). ms.isolated) now)

  pub source_holds : holds_at z.frames.states m.source ≡ true
  source_holds = ap is_holding_state (held_by z.frames.states v sound.frames m.page m.source is.here)

  pub target_free_then : (emptied : Frames) → emptied ≡ record z.frames { states = slice_set z.frames.states m.source Free } → free_at emptied.states m.target ≡ true
  target_free_then emptied now = still_free z.frames emptied m.target m.source Free (λ e. apart (sym e)) now (free_seen z.frames.states v sound.frames m.target is.within ∙ target_free v m sound.valid is)

  pub resting : (a : Address) → InRange a → entry_at z.tables.entries a ≢ Migration m.source
  resting = page_rests z.tables.entries v sound.entries sound.valid m.page m.source is.here

  -- each address that is listed under the source names the page
  present : (a : Address) → InRange a → is_listed (entry_at z.tables.entries a) m.source ≡ true → entry_at z.tables.entries a ≡ Present m.source
  present a range listed =
      let by = names_of z.tables.entries v sound.entries sound.valid a range m.source listed in
      let same : by.page ≡ m.page = sound.valid.pages.apart by.page m.page m.source by.takes (ap (λ (o : Option Placement). takes_up o m.source) is.here ∙ eq-eqb m.source m.source refl) in
      let two : Some by.placement ≡ Some (At m.source) = sym by.at ∙ ap (map.get v.placement) same ∙ is.here in
      let at : by.placement ≡ At m.source = cc in
      by.entry ∙ ap (λ (p : Placement). entry_for (Some p)) at

  not_present : (a : Address) → is_listed (entry_at z.tables.entries a) m.source ≡ false → entry_at z.tables.entries a ≢ Present m.source
  not_present a none is_present = both_ways _ none (ap (λ (x : Entry). is_listed x m.source) is_present ∙ eq-eqb m.source m.source refl)

  module _ (changed : EntryTable) (now : Replaces z.tables.entries changed (Present m.source) (Migration m.source)) where
    -- while the page moves, each address that is listed under its source names the migration, and none is listed under its target
    pub source_left : (a : Address) → InRange a → is_listed (entry_at changed a) m.source ≡ true → entry_at changed a ≡ Migration m.source
    source_left a range listed = elim (cases_Bool (is_listed (entry_at z.tables.entries a) m.source)) [
      | inl was ↦ now.there a (present a range was)
      | inr none ↦ absurd (both_ways _ (ap (λ (x : Entry). is_listed x m.source) (now.elsewhere a (not_present a none)) ∙ none) listed)
    ]

    pub target_left : (a : Address) → InRange a → is_listed (entry_at changed a) m.target ≡ false
    target_left a range = elim (cases_Bool (is_listed (entry_at z.tables.entries a) m.source)) [
      | inl was ↦ ap (λ (x : Entry). is_listed x m.target) (now.there a (present a range was)) ∙ ne_eqb m.source m.target apart
      | inr none ↦ ap (λ (x : Entry). is_listed x m.target) (now.elsewhere a (not_present a none)) ∙ none_listed z.tables.entries v sound.entries sound.valid m.target unused a range
    ]

    pub entries_moved : (last : EntryTable) → Replaces changed last (Migration m.source) (Present m.target) → ReplacesInRange z.tables.entries last (Present m.source) (Present m.target)
    entries_moved last then = replaced_twice z.tables.entries changed last (Present m.source) (Migration m.source) (Present m.target) resting now then

-- the fields of a zone before and after a page went
pub record Leaving {W : ℕ} (z changed : Inside W) (v : ZoneState) (m : Move) (note : PageNote) : Type 0 where
  pub sound : IsSound z v
  pub view : state_of z ≡ v
  pub may_move : IsMove v m
  pub accepted : isolate_refusal v ≡ None
  pub note_is : slice_get z.notes m.page ≡ Some note
  -- what changed with the page's place
  pub frames : changed.frames ≡ record { states = slice_set (slice_set z.frames.states m.source Free) m.target (Holds m.page); movable = slice_set z.frames.movable m.target true; unmovable = z.frames.unmovable }
  pub tables : ReplacesInRange z.tables.entries changed.tables.entries (Present m.source) (Present m.target)
  pub words : changed.words ≡ with_rows z.words (with_words z.words.rows m.target (words_of z.words.rows m.source))
  pub notes : changed.notes ≡ slice_set z.notes m.page (record note { placement = Some (At m.target) })
  pub moves : changed.moves ≡ record z.moves { isolated = z.moves.isolated + 1; moved = z.moves.moved + 1 }
  pub history : changed.history ≡ record (told (told z.history (Isolate m.page (isolated v.records))) (Moved (isolated v.records))) { round = None }
  -- what stayed as it was
  pub frames_same : changed.tables.frames ≡ z.tables.frames
  pub size_same : changed.tables.entries.size ≡ z.tables.entries.size
  pub rest_same : record changed { frames = z.frames; tables = z.tables; words = z.words; notes = z.notes; moves = z.moves; history = z.history } ≡ z

module _ {W : ℕ} {z changed : Inside W} {v : ZoneState} {m : Move} {note : PageNote} (known : Leaving z changed v m note) where
  abbrev after : ZoneState
  after = moved_away v m

  gets : GetsPlace v after m.page (Some (At m.source)) (Some (At m.target))
  gets = record {
    before = known.sound.valid;
    after = valid_moved_away v m known.sound.valid known.may_move known.accepted;
    at = known.may_move.here;
    now = page_there v m;
    others = others_same v m;
    blocks = refl;
    size = refl;
    handed_out = refl;
    claimed = refl;
  }

  leaves : LeavesOthers v after m.page
  leaves = record { last = λ q w ne. refl; dirty = λ q ne. refl; pins = λ q ne. refl; maps = λ q ne. refl }

  source_within : m.source < frame_count v
  source_within = frame_within v known.sound.valid m.page (At m.source) known.may_move.here

  target_apart : m.source ≢ m.target
  target_apart same = target_not_source v m known.may_move (sym same)

  frames_placed : FramesPlaced z.frames.states changed.frames.states m.page (Some (At m.source)) (Some (At m.target))
  frames_placed =
      let set = moved_frames z.frames.states m.page 0 m.source m.target target_apart (omega (arith, source_within, known.sound.frames.count)) (omega (arith, known.may_move.within, known.sound.frames.count)) in
      subst (λ (fs : Frames). FramesPlaced z.frames.states fs.states m.page (Some (At m.source)) (Some (At m.target))) (sym known.frames) (record {
        count = set.count;
        taken = set.taken;
        left = λ g had gone. set.left g (or_left _ _ had) gone;
        kept = λ g off gone. set.kept g (or_from _ _ off gone) gone;
      })

  fixed : set.contains v.unmovable m.page ≡ false
  fixed = movable_only v m.page known.may_move.movable

  movable_placed : MovablePlaced z.frames.movable changed.frames.movable (can_move v m.page) (Some (At m.target))
  movable_placed = subst (λ (fs : Frames). MovablePlaced z.frames.movable fs.movable (can_move v m.page) (Some (At m.target))) (sym known.frames)
      (kept_movable z.frames.movable (can_move v m.page) true m.target (omega (arith, known.may_move.within, known.sound.movable.count)) (sym known.may_move.movable))

  words_settled : WordsSettled v.page_size z.words.rows changed.words.rows (Moving 0 m.source m.target) (At m.target)
  words_settled = subst (λ (rows : List (List ℕ)). WordsSettled v.page_size z.words.rows rows (Moving 0 m.source m.target) (At m.target)) (sym (ap (λ (w : Words). w.rows) known.words))
      (moved_words z.words.rows (words_of z.words.rows m.source) 0 m.source m.target (omega (arith, known.may_move.within, known.sound.words.count)) refl (known.sound.words.sized m.source source_within))

  words_placed : WordsPlaced z.words.rows changed.words.rows after m.page (Some (At m.target))
  words_placed = record {
    count = words_settled.count;
    mine = λ placement w e small.
        (let is : placement ≡ At m.target = cc in
        ap (λ (p : Placement). slice_get (words_of changed.words.rows (words_frame p)) w) is ∙ ap (λ (ws : List ℕ). slice_get ws w) words_settled.carried
        ∙ known.sound.words.each m.page (At m.source) w known.may_move.here small);
    kept = words_settled.kept;
    sized = words_settled.sized;
  }

  abbrev left_note : PageNote
  left_note = record note { placement = Some (At m.target) }

  placement_before : placement_of z.notes m.page ≡ Some (At m.source)
  placement_before = sym (get_placements z.notes m.page) ∙ ap (λ (u : ZoneState). map.get u.placement m.page) known.view ∙ known.may_move.here

  note_placed : note.placement ≡ Some (At m.source)
  note_placed = sym (ap (option_and_then (λ (n : PageNote). n.placement)) known.note_is) ∙ placement_before

  note_fits : NoteFits left_note after m.page
  note_fits = let was = known.sound.notes.each m.page note known.note_is (ap is_some note_placed) in record { dirty = was.dirty; pins = was.pins; maps = was.maps }

  note_within : m.page < length z.notes
  note_within = slice_get_within z.notes m.page note known.note_is

  moves_fit : MovesFit changed.moves after.records
  moves_fit = subst (λ (moves : Moves). MovesFit moves after.records) (sym known.moves) (record {
    isolated = ap (λ n. n + 1) known.sound.moves.isolated;
    moved = ap (λ n. n + 1) known.sound.moves.moved;
    back = known.sound.moves.back;
  })

  -- the page's place while it moved is forgotten
  forgotten : after.placement ≡ map.insert v.placement m.page (At m.target)
  forgotten = placement_after v m known.sound.valid known.may_move

  entries_fit : EntriesFit changed.tables.entries after
  entries_fit =
      let entries = entries_settled v m.page (At m.source) (At m.target) (can_settle v m known.sound.valid known.may_move) (Isolate m.page (isolated v.records)) (isolate_still v.records (isolated v.records) m.page) z.tables.entries changed.tables.entries known.sound.entries known.tables in
      record {
        each = λ a range. entries.each a range ∙ ap (λ (p : map.FinMap nat_cmp Placement). entry_for (option_and_then (map.get p) (page_at v.records a))) (sym forgotten);
      }

  -- the words of the page aren't lent, and its new frame isn't
  back : set.contains v.lent_pages m.page ≡ false
  back = move_here v m known.sound.valid known.may_move

  vacant : (frame : ℕ) → takes_up (Some (At m.target)) frame ≡ true → has_frame z.words.lent frame ≡ false
  vacant frame has = ap (has_frame z.words.lent) (eqb-true frame m.target has) ∙ free_unlent z v known.sound m.target (target_free v m known.sound.valid known.may_move)

  rested : has_words_lent z.words.lent (map.get (state_of z).placement m.page) ≡ false
  rested = ap (has_words_lent z.words.lent) (ap (λ (u : ZoneState). map.get u.placement m.page) known.view ∙ known.may_move.here) ∙ known.sound.lent.of_page m.page m.source (at_takes _ m.source known.may_move.here) ∙ back

  pub leaving_sound : IsSound changed after
  leaving_sound =
      let sound = known.sound in
      let old = Some (At m.source) in
      let new = Some (At m.target) in
      record {
        valid = gets.after;
        orders = ap (λ (y : Inside W). length y.handed_out) known.rest_same ∙ sound.orders;
        cleared = subst (λ (y : Inside W). ClearedFit y.cleared (frame_count v) v.lent) (sym known.rest_same) sound.cleared;
        tables = known.frames_same ∙ sound.tables;
        size = known.size_same ∙ sound.size;
        marks = ap (λ (y : Inside W). length y.marks) known.rest_same ∙ sound.marks;
        claimed = subst (λ (y : Inside W). frame_count v ≤ y.claimed.bound) (sym known.rest_same) sound.claimed;
        frames = frames_fit v after m.page old new gets z.frames.states changed.frames.states sound.frames frames_placed;
        movable = movable_fit v after m.page old new gets z.frames.movable changed.frames.movable (can_move v m.page) sound.movable movable_placed refl (λ q ne. refl);
        unmovable = subst (λ (fs : Frames). UnmovableFit fs.unmovable after) (sym known.frames)
            (unmovable_moved v after m.page z.frames.unmovable sound.unmovable refl (λ q ne. refl) (others_same v m) fixed fixed);
        entries = entries_fit;
        words = words_fit v after m.page old new gets z.words.rows changed.words.rows sound.words words_placed leaves;
        lent = subst (λ (w : Words). LentFit w.lent v.handed_out v.lent after.placement v.lent_pages) (sym known.words) (lent_fit v after m.page old new gets z.words.lent sound.lent back vacant);
        notes = subst (λ (ns : List PageNote). NotesFit ns after) (sym known.notes) (notes_fit v after m.page old new gets z.notes left_note note_within sound.notes (λ used. note_fits) leaves);
        moves = moves_fit;
      }

  placement_new : tabulated (placement_of changed.notes) (length changed.notes) ≡ map.insert (state_of z).placement m.page (At m.target)
  placement_new = ap (λ (ns : List PageNote). tabulated (placement_of ns) (length ns)) known.notes ∙ placements_put z.notes m.page left_note note_within

  unmovable_new : gathered (is_unmovable_of changed.notes) (length changed.notes) ≡ (state_of z).unmovable
  unmovable_new =
      ap (λ (ns : List PageNote). gathered (is_unmovable_of ns) (length ns)) known.notes
      ∙ unmovable_kept z.notes m.page left_note note_within (sym (ap says_unmovable known.note_is ∙ ap (λ (o : Option Placement). is_some o && note.unmovable) note_placed))

  contents_same : held_contents changed ≡ held_contents z
  contents_same =
      (λ i. tabulated (contents_at W (known.words i).rows (known.rest_same i).cleared (known.rest_same i).handed_out) (length (known.rest_same i).handed_out))
      ∙ contents_kept z v known.sound known.view m.target (words_of z.words.rows m.source) (unheld_frame v m.target (target_free v m known.sound.valid known.may_move))

  pages_new : (state_of changed).lent_pages ≡ (state_of z).lent_pages
  pages_new =
      (λ i. pages_lent (known.words i).lent (placement_new i) (512 * (known.rest_same i).size.blocks))
      ∙ pages_put z.words.lent (state_of z).placement (512 * z.size.blocks) m.page (Some (At m.target)) rested (vacant m.target (eq-eqb m.target m.target refl))

  -- a state after the page went, with its new place alone
  abbrev gone : ZoneState → ZoneState
  gone u = record u {
    records = Moved (isolated v.records) ∷ Isolate m.page (isolated v.records) ∷ u.records;
    room = u.room - 1 - 1;
    placement = map.insert u.placement m.page (At m.target);
    round = None;
  }

  pub leaving_view : state_of changed ≡ after
  leaving_view =
      let here : state_of changed ≡ gone (state_of z) =
      λ i. record {
        number = (known.rest_same i).number;
        blocks = (known.rest_same i).size.blocks;
        spaces = (known.rest_same i).size.spaces;
        vpages = (known.rest_same i).size.vpages;
        page_size = W;
        records = (known.history i).records;
        room = (known.history i).room;
        unmovable = unmovable_new i;
        marked = gathered (true_at (known.rest_same i).marks) (length (known.rest_same i).marks);
        apart = (known.rest_same i).apart;
        claimed = (known.rest_same i).claimed.members;
        handed_out = tabulated (order_of (known.rest_same i).handed_out) (length (known.rest_same i).handed_out);
        contents = contents_same i;
        lent = gathered (is_lent_at (known.words i).lent (known.rest_same i).handed_out) (length (known.rest_same i).handed_out);
        lent_pages = pages_new i;
        memory = memory_of (known.words i);
        placement = placement_new i;
        migrate = (known.rest_same i).fingers.migrate;
        free = (known.rest_same i).fingers.free;
        round = (known.history i).round;
      } in
      here ∙ ap gone known.view ∙ ap (λ (p : map.FinMap nat_cmp Placement). record after { placement = p }) (sym forgotten)

  -- the zone is sound in the state that is seen of it then
  pub leaving_invariant : IsSound changed (state_of changed)
  leaving_invariant = subst (IsSound changed) (sym leaving_view) leaving_sound
