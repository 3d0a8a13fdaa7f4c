-- An address is taken from a page, and with its last one the page goes out of use: the tables still stand for the zone.
use Rattle.std.proofs.Common.{◌≡◌, ◌≢◌, ℕ, ◌*◌, ◌-◌, ◌/◌, ◌<◌, Bool, List, not, length, false, refl, sym, ap, ◌∙◌, arith, nat_eq}
use Rattle.std.specs.Prelude.{Some, None, slice_get, slice_set, ◌&&◌}
use Rattle.std.specs.Option.{option_and_then}
use Rattle.std.specs.FinMap as map
use Rattle.std.specs.FinSet as set
use Rattle.std.proofs.lemmas.Bool.{eq-eqb, eqb-true}
use Rattle.std.proofs.lemmas.List.{length-set}
use Rattle.frame_core.proofs.Lists.{slice_get_set_same, slice_get_set_other}
use Rattle.frame_core.specs.declared.place.Address.{Address}
use Rattle.frame_core.specs.declared.state.FrameState.TheVariants.{Free}
use Rattle.frame_core.specs.declared.record.Record.TheVariants.{Unmap}
use Rattle.frame_core.specs.History.{same_address, maps, pins}
use Rattle.table_core.specs.declared.entry.Entry.TheVariants.{Absent}
use Rattle.table_core.specs.Tables.{Tables, ChangesOnly}
use Rattle.scan_core.specs.FrameCounts.{recounted}
use Rattle.scan_core.specs.Frames.{Frames}
use Rattle.state_core.specs.declared.placement.Placement.TheVariants.{At}
use Rattle.state_core.specs.Unmapping.{without_page}
use Rattle.state_core.specs.ZoneState.{ZoneState, noted, placement_at}
use Rattle.state_core.proofs.Entries.{get_remove_same, get_remove_other, contains_remove_other, contains_remove_same}
use Rattle.state_core.proofs.Facts.{unpinned_here, not_none, frame_within}
use Rattle.state_core.proofs.Holding.{at_takes}
use Rattle.state_core.proofs.Placed.{untrue}
use Rattle.state_core.proofs.Unmapping.{CanUnmap, named_here, named_there, maps_one_less, maps_others, none_left, valid_still, valid_gone}
use Rattle.zone_tables.specs.declared.note.PageNote.{PageNote}
use Rattle.zone_tables.specs.declared.zone.ZoneTables.TheInside.{Inside}
use Rattle.zone_tables.specs.Fits.{entry_for}
use Rattle.zone_tables.specs.History.{History, told}
use Rattle.zone_tables.specs.Notes.{placement_of, unused_note}
use Rattle.zone_tables.specs.Sound.{state_of, IsSound}
use Rattle.zone_tables.proofs.Entries.{entries_changed, placement_same}
use Rattle.zone_tables.proofs.Noting.{Noting}
use Rattle.zone_tables.proofs.UnmovablePages.{unmovable_gone}
use Rattle.zone_tables.proofs.Placement.{lent_fit, GetsPlace, LeavesOthers, frames_fit, movable_fit, words_fit, notes_fit}
use Rattle.zone_tables.proofs.Tables.{note_seen}
use Rattle.zone_tables.proofs.NotedPages.{placements_put, unmovable_put}
use Rattle.zone_tables.specs.LentPages.{has_words_lent, pages_lent}
use Rattle.zone_tables.proofs.LentPages.{pages_put}
use Rattle.zone_tables.specs.Tabulated.{tabulated}
use Rattle.zone_tables.proofs.Facts.{Becomes, becomes}

-- what is known when an address names its page no more
pub record Unmapping {W : ℕ} (z : Inside W) (v : ZoneState) (client : ℕ) (address : Address) (page frame : ℕ) (tables : Tables) (history : History) : Type 0 where
  pub sound : IsSound z v
  pub view : state_of z ≡ v
  pub can : CanUnmap v address page frame
  pub changes : ChangesOnly z.tables.entries tables.entries address Absent
  pub frames_same : tables.frames ≡ z.tables.frames
  pub size_same : tables.entries.size ≡ z.tables.entries.size
  pub history_is : history ≡ told z.history (Unmap client address)

-- the fields of a zone after the last address of a page was taken
abbrev pub after_last : {W : ℕ} → Inside W → Bool → ℕ → ℕ → Tables → History → Inside W
after_last z unmovable page frame tables history = record z {
  frames = record z.frames { states = slice_set z.frames.states frame Free; unmovable = recounted unmovable false z.frames.unmovable (frame / 512) };
  tables = tables;
  notes = slice_set z.notes page unused_note;
  history = history;
}

module _ {W : ℕ} (z : Inside W) (v : ZoneState) (client : ℕ) (address : Address) (page frame : ℕ) (tables : Tables) (history : History) (known : Unmapping z v client address page frame tables history) where
  abbrev can : CanUnmap v address page frame
  can = known.can

  abbrev next : ZoneState
  next = noted v (Unmap client address)

  -- a page that keeps another address
  pub unmapping_one : maps v.records page ≢ 1 → (note : PageNote) → slice_get z.notes page ≡ Some note → Noting z v page (Unmap client address) note (record note { maps = note.maps - 1 }) z.frames tables history
  unmapping_one more note note_is =
      let sound = known.sound in
      let before = (note_seen known.view sound (not_none _ (At frame) can.at) note_is).fits in
      let spare = can.spare in
      record {
        sound = sound;
        view = known.view;
        valid = valid_still v client address page frame can more;
        only = record { last = λ q w. refl; dirty = λ q. refl; pins = λ q ne. refl; maps = maps_others v client address page frame can };
        moves = record { isolated = sound.moves.isolated; moved = sound.moves.moved; back = sound.moves.back };
        note_is = note_is;
        placed = refl;
        unmovable = refl;
        fits = record { dirty = before.dirty; pins = before.pins; maps = omega (arith, before.maps, maps_one_less v client address page frame can) };
        states = refl;
        movable = record { count = sound.movable.count; each = sound.movable.each };
        counts = refl;
        entries = entries_changed v next z.tables.entries tables.entries address Absent sound.entries known.changes
            (λ a e. sym (ap entry_for (ap (option_and_then (map.get v.placement)) (named_here v client address page frame can a e))))
            (λ a e. ap (option_and_then (map.get v.placement)) (named_there v client address page frame can a e));
        frames_same = known.frames_same;
        size_same = known.size_same;
        history_is = known.history_is;
      }

  module _ (one : maps v.records page ≡ 1) (unmovable : Bool) (is : set.contains v.unmovable page ≡ unmovable) where
    abbrev gone : ZoneState
    gone = without_page next page

    gets : GetsPlace v gone page (Some (At frame)) None
    gets = record {
      before = can.valid;
      after = valid_gone v client address page frame can one;
      at = can.at;
      now = get_remove_same v.placement page page refl;
      others = λ q ne. get_remove_other v.placement page q ne;
      blocks = refl;
      size = refl;
      handed_out = refl;
      claimed = refl;
    }

    leaves : LeavesOthers v gone page
    leaves = record { last = λ q w ne. refl; dirty = λ q ne. refl; pins = λ q ne. refl; maps = maps_others v client address page frame can }

    -- the placement of the page of each other address stays
    placement_there : (a : Address) → same_address a address ≡ false → placement_at gone a ≡ placement_at v a
    placement_there a e =
        let named = named_there v client address page frame can a e in
        placement_same v gone a named (λ q is. get_remove_other v.placement page q (none_left v client address page frame can one a q (named ∙ is)))

    note_within : page < length z.notes
    note_within = omega (arith, can.valid.pages.numbered page (not_none _ (At frame) can.at), known.sound.notes.count)

    -- the words of the page aren't lent, so that its frame isn't
    back : set.contains v.lent_pages page ≡ false
    back = unpinned_here v can.valid page frame can.at (can.unpinned one)

    rested : has_words_lent z.words.lent (map.get (state_of z).placement page) ≡ false
    rested = ap (has_words_lent z.words.lent) (ap (λ (u : ZoneState). map.get u.placement page) known.view ∙ can.at) ∙ known.sound.lent.of_page page frame (at_takes _ frame can.at) ∙ back

    pub last_sound : IsSound (after_last z unmovable page frame tables history) gone
    last_sound =
        let sound = known.sound in
        let spare = can.spare in
        let within : frame < length z.frames.states = omega (arith, frame_within v can.valid page (At frame) can.at, sound.frames.count) in
        record {
          valid = gets.after;
          orders = sound.orders;
          cleared = sound.cleared;
          lent = lent_fit v gone page (Some (At frame)) None gets z.words.lent sound.lent back (λ g has. cc);
          tables = known.frames_same ∙ sound.tables;
          size = known.size_same ∙ sound.size;
          marks = sound.marks;
          claimed = sound.claimed;
          frames = frames_fit v gone page (Some (At frame)) None gets z.frames.states (slice_set z.frames.states frame Free) sound.frames (record {
            count = length-set z.frames.states frame Free;
            taken = λ g state e. cc;
            left = λ g had off. slice_get_set_same z.frames.states frame g Free (eqb-true g frame had) within;
            kept = λ g had_not off. slice_get_set_other z.frames.states frame g Free (λ is. untrue _ had_not (eq-eqb g frame is));
          });
          movable = movable_fit v gone page (Some (At frame)) None gets z.frames.movable z.frames.movable _ sound.movable (record { count = refl; here = λ g e. cc; kept = λ g off. refl }) refl
              (λ q ne. ap (λ b. nat_eq (pins v.records q) 0 && not b) (contains_remove_other v.unmovable page q ne));
          unmovable = unmovable_gone v gone page z.frames.unmovable sound.unmovable refl (λ q ne. contains_remove_other v.unmovable page q ne) (λ q ne. get_remove_other v.placement page q ne) unmovable frame (omega (arith, note_within, sound.notes.count)) (omega (arith, within, sound.frames.count)) is can.at (contains_remove_same v.unmovable page page refl);
          entries = entries_changed v gone z.tables.entries tables.entries address Absent sound.entries known.changes
              (λ a e. sym (ap entry_for (ap (option_and_then (map.get gone.placement)) (named_here v client address page frame can a e))))
              placement_there;
          words = words_fit v gone page (Some (At frame)) None gets z.words.rows z.words.rows sound.words (record { count = refl; mine = λ p w e small. cc; kept = λ g off. refl; sized = λ g has. cc }) leaves;
          notes = notes_fit v gone page (Some (At frame)) None gets z.notes unused_note note_within sound.notes (λ used. cc) leaves;
          moves = record { isolated = sound.moves.isolated; moved = sound.moves.moved; back = sound.moves.back };
        }

    pub last_view : state_of (after_last z unmovable page frame tables history) ≡ gone
    last_view =
        let p = placements_put z.notes page unused_note note_within in
        let u = unmovable_put z.notes page unused_note note_within false refl in
        let lent_then : pages_lent z.words.lent (tabulated (placement_of (slice_set z.notes page unused_note)) (length (slice_set z.notes page unused_note))) (512 * z.size.blocks) ≡ (state_of z).lent_pages =
        (λ i. pages_lent z.words.lent (p i) (512 * z.size.blocks)) ∙ pages_put z.words.lent (state_of z).placement (512 * z.size.blocks) page None rested refl in
        let here : state_of (after_last z unmovable page frame tables history) ≡ without_page (noted (state_of z) (Unmap client address)) page =
        λ i. record (state_of z) { records = (known.history_is i).records; room = (known.history_is i).room; round = (known.history_is i).round; placement = p i; unmovable = u i; lent_pages = lent_then i } in
        here ∙ ap (λ (s : ZoneState). without_page (noted s (Unmap client address)) page) known.view

    pub last_holds : {frames : Frames} {notes : List PageNote} → frames ≡ record z.frames { states = slice_set z.frames.states frame Free; unmovable = recounted unmovable false z.frames.unmovable (frame / 512) } → notes ≡ slice_set z.notes page unused_note → Becomes (record z { frames = frames; tables = tables; notes = notes; history = history }) gone
    last_holds frames_are notes_are = becomes {ideal = after_last z unmovable page frame tables history} (λ i. record z { frames = frames_are i; tables = tables; notes = notes_are i; history = history }) last_view last_sound
