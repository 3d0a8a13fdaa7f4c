use Rattle.std.proofs.Common.{◌≡◌, ◌∙◌, ◌+◌, ◌∷◌, ℕ, refl, ap, subst, sym, arith}
use Rattle.std.specs.Prelude.{Some, false, is_some, slice_get, slice_set, unwrap_or}
use Rattle.std.specs.FinSet as set
use Rattle.frame_core.specs.declared.state.FrameState.TheVariants.{Source, Target}
use Rattle.frame_core.specs.declared.record.Record.TheVariants.{Isolate}
use Rattle.frame_core.specs.Moves.{isolated}
use Rattle.scan_core.specs.Frames.{Frames}
use Rattle.state_core.specs.declared.placement.Placement.TheVariants.{At, Moving}
use Rattle.state_core.specs.Pairs.{can_move}
use Rattle.state_core.specs.ZoneState.{ZoneState}
use Rattle.state_core.proofs.Facts.{frame_within, not_none, room_for_two}
use Rattle.fewest_core.proofs.Evacuation.{can_start, move_here, start_recorded, target_free}
use Rattle.fewest_core.proofs.Moves.{target_not_source}
use Rattle.zone_tables.specs.declared.zone.ZoneTables.TheInside.{Inside}
use Rattle.zone_tables.specs.Fits.{MovesFit}
use Rattle.zone_tables.specs.History.{told}
use Rattle.zone_tables.specs.Moves.{Moves}
use Rattle.zone_tables.proofs.Evacuation as away
use Rattle.zone_tables.proofs.Facts.{is_sound}
use Rattle.zone_tables.proofs.Isolation.{isolated_frames, isolated_movable, isolated_words}
use Rattle.zone_tables.proofs.MoveEnds.{still_free, two_puts}
use Rattle.zone_tables.proofs.Relocation.{FramesSettled, MovableSettled, Settling, settle_invariant, settle_view}
use Rattle.zone_tables.proofs.SearchesAndCounts.{free_seen}
use Rattle.zone_tables.proofs.Tables.{note_is, note_of, placement_seen}
use Rattle.zone_tables.proofs.UnmovablePages.{movable_only}
use Rattle.zone_tables.proofs.zone.ZoneTables.start_move.Given.{Over}
use Rattle.zone_tables.proofs.zone.ZoneTables.start_move.Goals as goal
use Rattle.zone_tables.proofs.zone.ZoneTables.start_move.Goals.{After-note}

pub isolate-serial-requires : goal.isolate-serial-requires
isolate-serial-requires g c = away.serial_left c.self.view_is c.self.invariant _ c.requires.may_move c.requires.accepted

pub to_source-requires : goal.to_source-requires
to_source-requires g c =
    let sound = is_sound c.self.view_is c.self.invariant in
    let is = c.requires.may_move in
    record { page = away.source_holds c.self.view_is c.self.invariant _ is c.requires.accepted; movable = ap (λ o. unwrap_or o false) (sound.movable.each c.args.page c.args.source is.here) ∙ is.movable }

pub to_target-requires : goal.to_target-requires
to_target-requires g c =
    let sound = is_sound c.self.view_is c.self.invariant in
    let is = c.requires.may_move in
    still_free c.self.inside.frames c.to_source.new.self c.args.target c.args.source (Source c.args.page) (target_not_source c.args.self.now _ is) c.to_source.ensures.state
    (free_seen c.self.inside.frames.states c.args.self.now sound.frames c.args.target is.within ∙ target_free c.args.self.now _ sound.valid is)

pub to_migration-requires-clause-within : goal.to_migration-requires-clause-within
to_migration-requires-clause-within g c = away.source_listed c.self.view_is c.self.invariant _ c.requires.may_move c.requires.accepted

pub to_migration-requires-clause-resting : goal.to_migration-requires-clause-resting
to_migration-requires-clause-resting g c = away.resting c.self.view_is c.self.invariant _ c.requires.may_move c.requires.accepted

pub place-requires : goal.place-requires
place-requires g c = ap is_some (placement_seen c.self.inside c.args.self.now c.self.view_is c.args.page ∙ c.requires.may_move.here)

noted : {g : Over} (c : After-note g) → slice_get c.self.inside.notes c.args.page ≡ Some (note_of c.self.inside c.args.page)
noted c = note_is c.self.inside c.args.self.now (is_sound c.self.view_is c.self.invariant) c.args.page (not_none _ (At c.args.source) c.requires.may_move.here)

-- the fields after the call
abbrev after : {g : Over} → After-note g → Inside g.row.W
after c = record c.self.inside {
  frames = c.to_target.new.self;
  tables = c.to_migration.new.self;
  notes = c.place.new.self;
  moves = c.isolate-serial.new.self;
  fingers = c.args.fingers;
  history = c.note.new.self;
}

settling : {g : Over} (c : After-note g) → Settling c.self.inside (after c) c.args.self.now c.args.page (At c.args.source) (Moving (isolated c.args.self.now.records) c.args.source c.args.target) (Isolate c.args.page (isolated c.args.self.now.records)) (note_of c.self.inside c.args.page) c.args.fingers.migrate c.args.fingers.free
settling c =
    let z = c.self.inside in
    let v = c.args.self.now in
    let page = c.args.page in
    let source = c.args.source in
    let target = c.args.target in
    let sound = is_sound c.self.view_is c.self.invariant in
    let law = sound.valid in
    let is = c.requires.may_move in
    let room = room_for_two v c.requires.accepted in
    let serial : c.isolate-serial.result ≡ isolated v.records = c.isolate-serial.ensures.serial ∙ sound.moves.isolated in
    let source_in = frame_within v law page (At source) is.here in
    let frames_are = two_puts z.frames c.to_source.new.self c.to_target.new.self source target (Source page) (Target page) c.to_source.ensures.state c.to_target.ensures.state in
    record {
      sound = sound;
      view = c.self.view_is;
      can = can_start v _ law is;
      recorded = start_recorded v _ law is c.requires.accepted;
      spare = omega (arith, room);
      note_is = noted c;
      frames = subst (λ (fs : Frames). FramesSettled z.frames.states fs.states page (At source) (Moving (isolated v.records) source target)) (sym frames_are)
          (isolated_frames z.frames.states page source target (isolated v.records) (λ e. target_not_source v _ is (sym e)) (omega (arith, source_in, sound.frames.count)) (omega (arith, is.within, sound.frames.count)));
      movable = subst (λ (fs : Frames). MovableSettled z.frames.movable fs.movable (can_move v page) (Moving (isolated v.records) source target)) (sym frames_are)
          (isolated_movable z.frames.movable (can_move v page) (isolated v.records) source target);
      fixed = movable_only v page is.movable;
      counts = ap (λ (fs : Frames). fs.unmovable) frames_are;
      tables = c.to_migration.ensures.replaced;
      words = isolated_words z.words.rows v sound.words (isolated v.records) source target source_in is.within;
      notes = c.place.ensures _ (noted c) ∙ ap (λ (n : ℕ). slice_set z.notes page (record (note_of z page) { placement = Some (Moving n source target) })) serial;
      moves = subst (λ (moves : Moves). MovesFit moves (Isolate page (isolated v.records) ∷ v.records)) (sym c.isolate-serial.ensures.noted)
          (record { isolated = ap (λ n. n + 1) sound.moves.isolated; moved = sound.moves.moved; back = sound.moves.back });
      fingers_are = refl;
      fingers = c.requires.ordered;
      swept = c.requires.swept;
      history = c.note.ensures ∙ ap (λ (n : ℕ). told z.history (Isolate page n)) serial;
      frames_same = c.to_migration.ensures.frames;
      size_same = c.to_migration.ensures.size;
      rest_same = refl;
      lent_same = refl;
      memory_same = refl;
      contents_same = refl;
    }

pub invariant_of-self : goal.invariant_of-self
invariant_of-self g c = settle_invariant (settling c)

pub returns-clause-step : goal.returns-clause-step
returns-clause-step g c = settle_view (settling c)

pub returns-clause-valid : goal.returns-clause-valid
returns-clause-valid g c = (invariant_of-self g c).valid

pub returns-clause-way : goal.returns-clause-way
returns-clause-way g c =
    let serial = c.isolate-serial.ensures.serial ∙ (is_sound c.self.view_is c.self.invariant).moves.isolated in
    λ i. record { page = c.args.page; serial = serial i; source = c.args.source; target = c.args.target }

pub returns-clause-here : goal.returns-clause-here
returns-clause-here g c =
    let sound = is_sound c.self.view_is c.self.invariant in
    ap (λ (u : ZoneState). set.contains u.lent_pages c.args.page) (returns-clause-step g c) ∙ move_here c.args.self.now _ sound.valid c.requires.may_move
