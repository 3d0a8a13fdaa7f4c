-- One pin more or less on a page: the tables still stand for the zone.
use Rattle.std.proofs.Common.{◌≡◌, ◌≢◌, ℕ, ◌+◌, ◌-◌, ◌<◌, Bool, true, false, ◌∷◌, inl, inr, not, length, refl, sym, ap, subst, ◌∙◌, arith, nat_eq}
use Rattle.std.specs.Prelude.{Option, Some, IsSome, slice_get, ◌&&◌}
use Rattle.std.proofs.lemmas.Bool.Decides.{eqb_tells}
use Rattle.std.specs.FinMap as map
use Rattle.std.specs.FinSet as set
use Rattle.frame_core.specs.declared.place.Address.{Address}
use Rattle.frame_core.specs.declared.record.Record.{Record}
use Rattle.frame_core.specs.declared.record.Record.TheVariants.{Pin, Unpin}
use Rattle.frame_core.specs.History.{page_at, maps, pins}
use Rattle.frame_core.specs.Moves.{out}
use Rattle.scan_core.specs.Frames.{Frames}
use Rattle.state_core.specs.declared.placement.Placement.{Placement}
use Rattle.state_core.specs.declared.placement.Placement.TheVariants.{At}
use Rattle.state_core.specs.Valid.{IsValidZone}
use Rattle.state_core.specs.ZoneState.{ZoneState, noted}
use Rattle.state_core.proofs.Pinning.{pins_one_more, pins_one_less, pinned_others, unpinned_others, valid_pinned, valid_unpinned}
use Rattle.zone_tables.specs.declared.note.PageNote.{PageNote}
use Rattle.zone_tables.specs.declared.zone.ZoneTables.TheInside.{Inside}
use Rattle.zone_tables.specs.Fits.{EntriesFit, MovableFit, MovesFit}
use Rattle.zone_tables.specs.History.{History, told}
use Rattle.zone_tables.specs.Notes.{can_move_by, movable_at}
use Rattle.zone_tables.specs.Sound.{state_of, IsSound}
use Rattle.zone_tables.proofs.Noting.{Noting, NotesOnly, stays}
use Rattle.zone_tables.proofs.Placement.{movable_said}
use Rattle.zone_tables.proofs.Tables.{note_seen}

-- a page with a pin may not be taken
pinned_stays : (note : PageNote) → can_move_by (record note { pins = note.pins + 1 }) ≡ false
pinned_stays note = elim (eqb_tells (note.pins + 1) 0) [ inl none ↦ absurd (omega (arith, none.1)) | inr some ↦ ap (λ none. none && not note.unmovable) some.0 ]

module _ {W : ℕ} (z : Inside W) (v : ZoneState) (sound : IsSound z v) (view : state_of z ≡ v) (page : ℕ) (used : IsSome (map.get v.placement page)) (note : PageNote) (note_is : slice_get z.notes page ≡ Some note) where
  -- the frame of the page says whether the page may be taken from it
  said_so : (entry : Record) → IsValidZone (noted v entry) → (count : ℕ) → count ≡ pins (entry ∷ v.records) page → ((q : ℕ) → q ≢ page → pins (entry ∷ v.records) q ≡ pins v.records q) → (frames : Frames) → frames ≡ record z.frames { movable = movable_at z.frames.movable note.placement (can_move_by (record note { pins = count })) } → MovableFit frames.movable (noted v entry)
  said_so entry valid count is others frames frames_are =
      let seen = note_seen view sound used note_is in
      let can : Bool = can_move_by (record note { pins = count }) in
      subst (λ (fs : Frames). MovableFit fs.movable (noted v entry)) (sym frames_are)
      (subst (λ (o : Option Placement). MovableFit (movable_at z.frames.movable o can) (noted v entry)) (sym seen.placement)
      (movable_said v (noted v entry) page (map.get v.placement page) (stays v (noted v entry) page sound.valid valid refl refl refl refl refl) z.frames.movable can sound.movable
      (λ i. nat_eq (is i) 0 && not (seen.unmovable i))
      (λ q ne. ap (λ n. nat_eq n 0 && not (set.contains v.unmovable q)) (others q ne))))

  -- a page gets another number of pins, and nothing else of it changes
  noting_pins : (entry : Record) (count : ℕ) (frames : Frames) (history : History) → IsValidZone (noted v entry) → NotesOnly v entry page → maps (entry ∷ v.records) page ≡ maps v.records page → MovesFit z.moves (entry ∷ v.records) → EntriesFit z.tables.entries (noted v entry)
      → count ≡ pins (entry ∷ v.records) page → frames ≡ record z.frames { movable = movable_at z.frames.movable note.placement (can_move_by (record note { pins = count })) } → history ≡ told z.history entry → Noting z v page entry note (record note { pins = count }) frames z.tables history
  noting_pins entry count frames history valid only maps_same moves entries is frames_are history_is =
      let before = (note_seen view sound used note_is).fits in
      record {
        sound = sound;
        view = view;
        valid = valid;
        only = only;
        moves = moves;
        note_is = note_is;
        placed = refl;
        unmovable = refl;
        fits = record { dirty = before.dirty ∙ sym (only.dirty page); pins = is; maps = before.maps ∙ sym maps_same };
        states = ap (λ (fs : Frames). fs.states) frames_are;
        movable = said_so entry valid count is only.pins frames frames_are;
        counts = ap (λ (fs : Frames). fs.unmovable) frames_are;
        entries = entries;
        frames_same = refl;
        size_same = refl;
        history_is = history_is;
      }

  module _ (client : ℕ) (address : Address) (named : page_at v.records address ≡ Some page) (spare : length (out v.records) < v.room) (frames : Frames) (history : History) where
    pub pinning : pins v.records page < 255 → frames ≡ record z.frames { movable = movable_at z.frames.movable note.placement false } → history ≡ told z.history (Pin client address) → Noting z v page (Pin client address) note (record note { pins = note.pins + 1 }) frames z.tables history
    pinning few frames_are = noting_pins (Pin client address) (note.pins + 1) frames history (valid_pinned v client address page named sound.valid spare few)
        (record { last = λ q w. refl; dirty = λ q. refl; pins = pinned_others v client address page named; maps = λ q ne. refl }) refl
        (record { isolated = sound.moves.isolated; moved = sound.moves.moved; back = sound.moves.back }) (record { each = sound.entries.each })
        (omega (arith, (note_seen view sound used note_is).fits.pins, pins_one_more v client address page named))
        (frames_are ∙ ap (λ can. record z.frames { movable = movable_at z.frames.movable note.placement can }) (sym (pinned_stays note)))

    pub unpinning : ((frame : ℕ) → map.get v.placement page ≡ Some (At frame) → set.contains v.lent_pages page ≡ true → 1 < pins v.records page) → frames ≡ record z.frames { movable = movable_at z.frames.movable note.placement (can_move_by (record note { pins = note.pins - 1 })) } → history ≡ told z.history (Unpin client address) → Noting z v page (Unpin client address) note (record note { pins = note.pins - 1 }) frames z.tables history
    unpinning keeps = noting_pins (Unpin client address) (note.pins - 1) frames history (valid_unpinned v client address page named sound.valid spare keeps)
        (record { last = λ q w. refl; dirty = λ q. refl; pins = unpinned_others v client address page named; maps = λ q ne. refl }) refl
        (record { isolated = sound.moves.isolated; moved = sound.moves.moved; back = sound.moves.back }) (record { each = sound.entries.each })
        (ap (λ n. n - 1) (note_seen view sound used note_is).fits.pins ∙ sym (pins_one_less v client address page named))
