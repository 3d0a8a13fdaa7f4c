-- The note of a page in use changes, and the page stays where it is: the tables still stand for the zone.
use Rattle.std.proofs.Common.{◌≡◌, ◌≢◌, ℕ, ◌*◌, ◌<◌, List, ◌∷◌, length, refl, sym, ap, subst, ◌∙◌}
use Rattle.std.specs.Prelude.{Some, is_some, slice_get, slice_set, ◌&&◌}
use Rattle.std.specs.Option.{option_and_then}
use Rattle.std.specs.FinMap as map
use Rattle.std.proofs.lemmas.Option.{slice_get_within}
use Rattle.frame_core.specs.declared.state.FrameState.{FrameState}
use Rattle.frame_core.specs.declared.record.Record.{Record}
use Rattle.frame_core.specs.History.{last, dirty, pins, maps}
use Rattle.scan_core.specs.Frames.{Frames}
use Rattle.table_core.specs.Tables.{Tables}
use Rattle.state_core.specs.Valid.{IsValidZone}
use Rattle.state_core.specs.ZoneState.{ZoneState, noted}
use Rattle.zone_tables.specs.declared.note.PageNote.{PageNote}
use Rattle.zone_tables.specs.declared.zone.ZoneTables.TheInside.{Inside}
use Rattle.zone_tables.specs.Fits.{FramesFit, EntriesFit, NoteFits, MovesFit, MovableFit, UnmovableFit}
use Rattle.zone_tables.specs.History.{History, told}
use Rattle.zone_tables.specs.LentPages.{pages_lent}
use Rattle.zone_tables.specs.Notes.{says_unmovable}
use Rattle.zone_tables.specs.Sound.{state_of, IsSound}
use Rattle.zone_tables.proofs.Facts.{noted_view, Becomes, becomes}
use Rattle.zone_tables.proofs.NotedPages.{placements_kept, unmovable_kept}
use Rattle.zone_tables.proofs.Placement.{GetsPlace, LeavesOthers, notes_fit}

-- a record changes pins and addresses of one page alone, no value, and no page's being dirty
pub record NotesOnly (v : ZoneState) (entry : Record) (page : ℕ) : Type 0 where
  pub last : (q word : ℕ) → last (entry ∷ v.records) q word ≡ last v.records q word
  pub dirty : (q : ℕ) → dirty (entry ∷ v.records) q ≡ dirty v.records q
  pub pins : (q : ℕ) → q ≢ page → pins (entry ∷ v.records) q ≡ pins v.records q
  pub maps : (q : ℕ) → q ≢ page → maps (entry ∷ v.records) q ≡ maps v.records q

-- what is known when the note of a page changes
pub record Noting {W : ℕ} (z : Inside W) (v : ZoneState) (page : ℕ) (entry : Record) (note changed : PageNote) (frames : Frames) (tables : Tables) (history : History) : Type 0 where
  pub sound : IsSound z v
  pub view : state_of z ≡ v
  pub valid : IsValidZone (noted v entry)
  pub only : NotesOnly v entry page
  pub moves : MovesFit z.moves (entry ∷ v.records)
  pub note_is : slice_get z.notes page ≡ Some note
  pub placed : changed.placement ≡ note.placement
  pub unmovable : changed.unmovable ≡ note.unmovable
  pub fits : NoteFits changed (noted v entry) page
  pub states : frames.states ≡ z.frames.states
  pub movable : MovableFit frames.movable (noted v entry)
  pub counts : frames.unmovable ≡ z.frames.unmovable
  pub entries : EntriesFit tables.entries (noted v entry)
  pub frames_same : tables.frames ≡ z.tables.frames
  pub size_same : tables.entries.size ≡ z.tables.entries.size
  pub history_is : history ≡ told z.history entry

-- the fields of a zone after a note changed
abbrev pub after_noting : {W : ℕ} → Inside W → ℕ → PageNote → Frames → Tables → History → Inside W
after_noting z page changed frames tables history = record z { frames = frames; tables = tables; notes = slice_set z.notes page changed; history = history }

-- the page stays where it is, as a change of place from a placement to the same one
pub stays : (v w : ZoneState) (page : ℕ) → IsValidZone v → IsValidZone w → w.placement ≡ v.placement → w.blocks ≡ v.blocks → w.page_size ≡ v.page_size → w.handed_out ≡ v.handed_out → w.claimed ≡ v.claimed → GetsPlace v w page (map.get v.placement page) (map.get v.placement page)
stays v w page before after placement blocks size handed_out claimed = record {
  before = before;
  after = after;
  at = refl;
  now = λ i. map.get (placement i) page;
  others = λ q ne i. map.get (placement i) q;
  blocks = blocks;
  size = size;
  handed_out = handed_out;
  claimed = claimed;
}

module _ {W : ℕ} {z : Inside W} {v : ZoneState} {page : ℕ} {entry : Record} {note changed : PageNote} {frames : Frames} {tables : Tables} {history : History} (known : Noting z v page entry note changed frames tables history) where
  leaves : LeavesOthers v (noted v entry) page
  leaves = record { last = λ q w ne. known.only.last q w; dirty = λ q ne. known.only.dirty q; pins = known.only.pins; maps = known.only.maps }

  within : page < length z.notes
  within = slice_get_within z.notes page note known.note_is

  pub noting_sound : IsSound (after_noting z page changed frames tables history) (noted v entry)
  noting_sound =
      let sound = known.sound in
      record {
        valid = known.valid;
        orders = sound.orders;
        cleared = sound.cleared;
        lent = sound.lent;
        tables = known.frames_same ∙ sound.tables;
        size = known.size_same ∙ sound.size;
        marks = sound.marks;
        claimed = sound.claimed;
        frames = subst (λ (states : List (FrameState ℕ)). FramesFit states (noted v entry)) (sym known.states)
            (record { count = sound.frames.count; of_page = sound.frames.of_page; of_block = sound.frames.of_block; of_none = sound.frames.of_none });
        movable = known.movable;
        unmovable = subst (λ (counts : List ℕ). UnmovableFit counts (noted v entry)) (sym known.counts) (record { count = sound.unmovable.count; each = sound.unmovable.each; rest = sound.unmovable.rest });
        entries = known.entries;
        words = record { count = sound.words.count; sized = sound.words.sized; each = λ q placement w at small. sound.words.each q placement w at small ∙ ap Some (sym (known.only.last q w)) };
        notes = notes_fit v (noted v entry) page _ _ (stays v (noted v entry) page sound.valid known.valid refl refl refl refl refl) z.notes changed within sound.notes (λ used. known.fits) leaves;
        moves = known.moves;
      }

  pub noting_view : state_of (after_noting z page changed frames tables history) ≡ noted v entry
  noting_view =
      let p = placements_kept z.notes page changed within (known.placed ∙ sym (ap (option_and_then (λ (n : PageNote). n.placement)) known.note_is)) in
      let u = unmovable_kept z.notes page changed within ((λ i. is_some (known.placed i) && known.unmovable i) ∙ sym (ap says_unmovable known.note_is)) in
      let here : state_of (after_noting z page changed frames tables history) ≡ state_of (record z { history = history }) = λ i. record (state_of (record z { history = history })) { placement = p i; unmovable = u i; lent_pages = pages_lent z.words.lent (p i) (512 * z.size.blocks) } in
      here ∙ noted_view z v history entry known.view known.history_is

  pub noting_holds : {notes : List PageNote} → notes ≡ slice_set z.notes page changed → Becomes (record z { frames = frames; tables = tables; notes = notes; history = history }) (noted v entry)
  noting_holds is = becomes {ideal = after_noting z page changed frames tables history} (λ i. record z { frames = frames; tables = tables; notes = is i; history = history }) noting_view noting_sound
