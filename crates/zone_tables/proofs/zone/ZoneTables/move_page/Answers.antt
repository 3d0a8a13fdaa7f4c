use Rattle.std.proofs.Common.{◌≡◌, ◌∙◌, ◌+◌, refl, ap, arith}
use Rattle.std.specs.Prelude.{Some, None, is_some, slice_get}
use Rattle.frame_core.specs.declared.record.Record.TheVariants.{Isolate, Moved}
use Rattle.frame_core.specs.Moves.{isolated}
use Rattle.state_core.specs.declared.placement.Placement.TheVariants.{At}
use Rattle.state_core.proofs.Facts.{not_none}
use Rattle.zone_tables.specs.declared.zone.ZoneTables.TheInside.{Inside}
use Rattle.zone_tables.specs.History.{told}
use Rattle.zone_tables.specs.Moves.{Moves}
use Rattle.zone_tables.proofs.Evacuation as away
use Rattle.zone_tables.proofs.Evacuation.{Leaving, leaving_invariant, leaving_view}
use Rattle.zone_tables.proofs.Facts.{is_sound}
use Rattle.zone_tables.proofs.MoveEnds.{left_settled}
use Rattle.zone_tables.proofs.Tables.{note_is, note_of, placement_seen}
use Rattle.zone_tables.proofs.zone.ZoneTables.move_page.Given.{Over}
use Rattle.zone_tables.proofs.zone.ZoneTables.move_page.Goals as goal
use Rattle.zone_tables.proofs.zone.ZoneTables.move_page.Goals.{After-forget_round}

pub isolate-serial-requires : goal.isolate-serial-requires
isolate-serial-requires g c = away.serial_left c.self.view_is c.self.invariant _ c.requires.may_move c.requires.accepted

pub arrive-requires : goal.arrive-requires
arrive-requires g c = away.some_moving c.self.view_is c.self.invariant _ c.requires.may_move c.requires.accepted c.isolate-serial.new.self c.isolate-serial.ensures.noted

pub empty-requires-clause-page : goal.empty-requires-clause-page
empty-requires-clause-page g c = away.source_holds c.self.view_is c.self.invariant _ c.requires.may_move c.requires.accepted

pub fill-requires-clause-free : goal.fill-requires-clause-free
fill-requires-clause-free g c = away.target_free_then c.self.view_is c.self.invariant _ c.requires.may_move c.requires.accepted c.empty.new.self c.empty.ensures.state

pub to_migration-requires-clause-within : goal.to_migration-requires-clause-within
to_migration-requires-clause-within g c = away.source_listed c.self.view_is c.self.invariant _ c.requires.may_move c.requires.accepted

pub to_migration-requires-clause-resting : goal.to_migration-requires-clause-resting
to_migration-requires-clause-resting g c = away.resting c.self.view_is c.self.invariant _ c.requires.may_move c.requires.accepted

pub to_present-requires-clause-source_within : goal.to_present-requires-clause-source_within
to_present-requires-clause-source_within g c = omega (arith, away.source_listed c.self.view_is c.self.invariant _ c.requires.may_move c.requires.accepted, c.to_migration.ensures.frames)

pub to_present-requires-clause-within : goal.to_present-requires-clause-within
to_present-requires-clause-within g c = omega (arith, away.target_listed c.self.view_is c.self.invariant _ c.requires.may_move c.requires.accepted, c.to_migration.ensures.frames)

pub to_present-requires-clause-left : goal.to_present-requires-clause-left
to_present-requires-clause-left g c = away.source_left c.self.view_is c.self.invariant _ c.requires.may_move c.requires.accepted c.to_migration.new.self.entries c.to_migration.ensures.replaced

pub to_present-requires-clause-unnamed : goal.to_present-requires-clause-unnamed
to_present-requires-clause-unnamed g c = λ ne. away.target_left c.self.view_is c.self.invariant _ c.requires.may_move c.requires.accepted c.to_migration.new.self.entries c.to_migration.ensures.replaced

pub copy-requires : goal.copy-requires
copy-requires g c = (
  omega arith,
  (
    away.apart c.self.view_is c.self.invariant _ c.requires.may_move c.requires.accepted,
    (
      (
        away.source_row c.self.view_is c.self.invariant _ c.requires.may_move c.requires.accepted,
        away.source_here c.self.view_is c.self.invariant _ c.requires.may_move c.requires.accepted,
      ),
      (
        away.target_row c.self.view_is c.self.invariant _ c.requires.may_move c.requires.accepted,
        away.target_here c.self.view_is c.self.invariant _ c.requires.may_move c.requires.accepted,
      ),
    ),
  ),
)

pub place-requires : goal.place-requires
place-requires g c = ap is_some (placement_seen c.self.inside c.args.self.now c.self.view_is c.args.page ∙ c.requires.may_move.here)

pub note-requires : goal.note-requires
note-requires g c = omega (arith, away.room_for_two c.self.view_is c.self.invariant _ c.requires.may_move c.requires.accepted)

noted : {g : Over} (c : After-forget_round g) → slice_get c.self.inside.notes c.args.page ≡ Some (note_of c.self.inside c.args.page)
noted c = note_is c.self.inside c.args.self.now (is_sound c.self.view_is c.self.invariant) c.args.page (not_none _ (At c.args.source) c.requires.may_move.here)

-- the fields after the call
abbrev after : {g : Over} → After-forget_round g → Inside g.row.W
after c = record c.self.inside {
  frames = c.fill.new.self;
  tables = c.to_present.new.self;
  words = c.copy.new.self;
  notes = c.place.new.self;
  moves = c.arrive.new.self;
  history = c.forget_round.new.self;
}

leaving : {g : Over} (c : After-forget_round g) → Leaving c.self.inside (after c) c.args.self.now (record { page = c.args.page; source = c.args.source; target = c.args.target }) (note_of c.self.inside c.args.page)
leaving c =
    let z = c.self.inside in
    let serial = c.isolate-serial.ensures.serial ∙ (is_sound c.self.view_is c.self.invariant).moves.isolated in
    record {
      sound = is_sound c.self.view_is c.self.invariant;
      view = c.self.view_is;
      may_move = c.requires.may_move;
      accepted = c.requires.accepted;
      note_is = noted c;
      frames = left_settled z.frames c.empty.new.self c.fill.new.self c.args.target c.args.source c.args.page _ c.empty.ensures.state c.fill.ensures.page;
      tables = away.entries_moved c.self.view_is c.self.invariant _ c.requires.may_move c.requires.accepted c.to_migration.new.self.entries c.to_migration.ensures.replaced c.to_present.new.self.entries c.to_present.ensures.replaced;
      words = c.copy.ensures.copied;
      notes = c.place.ensures _ (noted c);
      moves = c.arrive.ensures ∙ ap (λ (ms : Moves). record ms { moved = ms.moved + 1 }) c.isolate-serial.ensures.noted;
      history = c.forget_round.ensures ∙ (λ i. record (c.note-2.ensures i) { round = None }) ∙ (λ i. record (told (c.note.ensures i) (Moved (serial i))) { round = None }) ∙ (λ i. record (told (told z.history (Isolate c.args.page (serial i))) (Moved (isolated c.args.self.now.records))) { round = None });
      frames_same = c.to_present.ensures.frames ∙ c.to_migration.ensures.frames;
      size_same = c.to_present.ensures.size ∙ c.to_migration.ensures.size;
      rest_same = refl;
    }

pub invariant_of-self : goal.invariant_of-self
invariant_of-self g c = leaving_invariant (leaving c)

pub returns-clause-step : goal.returns-clause-step
returns-clause-step g c = leaving_view (leaving c)

pub returns-clause-valid : goal.returns-clause-valid
returns-clause-valid g c = (invariant_of-self g c).valid
