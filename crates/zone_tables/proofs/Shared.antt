-- A second address for a page: the tables still stand for the zone.
use Rattle.std.proofs.Common.{◌≡◌, ℕ, ◌+◌, refl, sym, ap, ◌∙◌, arith}
use Rattle.std.specs.Prelude.{Some, slice_get}
use Rattle.std.specs.Option.{option_and_then}
use Rattle.std.specs.FinMap as map
use Rattle.frame_core.specs.declared.place.Address.{Address}
use Rattle.frame_core.specs.declared.record.Record.TheVariants.{Share}
use Rattle.table_core.specs.declared.entry.Entry.TheVariants.{Present}
use Rattle.table_core.specs.Tables.{Tables, ChangesOnly}
use Rattle.state_core.specs.declared.placement.Placement.TheVariants.{At}
use Rattle.state_core.specs.Sharing.{shared}
use Rattle.state_core.specs.ZoneState.{ZoneState}
use Rattle.state_core.proofs.Facts.{not_none}
use Rattle.state_core.proofs.Sharing.{CanShare, named_here, named_there, maps_one_more, maps_others, valid_shared}
use Rattle.zone_tables.specs.declared.note.PageNote.{PageNote}
use Rattle.zone_tables.specs.declared.zone.ZoneTables.TheInside.{Inside}
use Rattle.zone_tables.specs.Fits.{entry_for}
use Rattle.zone_tables.specs.History.{History, told}
use Rattle.zone_tables.specs.Sound.{state_of, IsSound}
use Rattle.zone_tables.proofs.Entries.{entries_changed}
use Rattle.zone_tables.proofs.Noting.{Noting}
use Rattle.zone_tables.proofs.Tables.{note_seen}

pub sharing : {W : ℕ} (z : Inside W) (v : ZoneState) → IsSound z v → state_of z ≡ v → (client : ℕ) (address alias : Address) (page frame : ℕ) → CanShare v address alias page frame → (note : PageNote) (tables : Tables) (history : History) → slice_get z.notes page ≡ Some note → ChangesOnly z.tables.entries tables.entries alias (Present frame) → tables.frames ≡ z.tables.frames → tables.entries.size ≡ z.tables.entries.size → history ≡ told z.history (Share client address alias) → Noting z v page (Share client address alias) note (record note { maps = note.maps + 1 }) z.frames tables history
sharing z v sound view client address alias page frame can note tables history note_is changes frames_same size_same history_is =
    let before = (note_seen view sound (not_none _ (At frame) can.at) note_is).fits in
    let next = shared v client address alias in
    let spare = can.spare in
    record {
      sound = sound;
      view = view;
      valid = valid_shared v client address alias page frame can;
      only = record { last = λ q w. refl; dirty = λ q. refl; pins = λ q ne. refl; maps = maps_others v client address alias page frame can };
      moves = record { isolated = sound.moves.isolated; moved = sound.moves.moved; back = sound.moves.back };
      note_is = note_is;
      placed = refl;
      unmovable = refl;
      fits = record { dirty = before.dirty; pins = before.pins; maps = omega (arith, before.maps, maps_one_more v client address alias page frame can) };
      states = refl;
      movable = record { count = sound.movable.count; each = sound.movable.each };
      counts = refl;
      entries = entries_changed v next z.tables.entries tables.entries alias (Present frame) sound.entries changes
          (λ a e. sym (ap entry_for (ap (option_and_then (map.get v.placement)) (named_here v client address alias page frame can a e) ∙ can.at)))
          (λ a e. ap (option_and_then (map.get v.placement)) (named_there v client address alias page frame can a e));
      frames_same = frames_same;
      size_same = size_same;
      history_is = history_is;
    }
