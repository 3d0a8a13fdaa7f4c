use Rattle.std.proofs.Common.{◌≡◌, ◌∙◌, ◌+◌, ◌∷◌, ℕ, refl, ap, subst, sym, arith}
use Rattle.std.specs.Prelude.{is_some, slice_set}
use Rattle.frame_core.specs.declared.state.FrameState.TheVariants.{Free, Holds}
use Rattle.frame_core.specs.declared.record.Record.TheVariants.{Back}
use Rattle.scan_core.specs.Frames.{Frames}
use Rattle.state_core.specs.Pairs.{can_move}
use Rattle.zone_tables.proofs.Facts.{is_sound}
use Rattle.zone_tables.proofs.Tables.{placement_seen, note_seen, movable_seen}
use Rattle.zone_tables.specs.Fits.{MovesFit}
use Rattle.zone_tables.specs.Moves.{Moves}
use Rattle.zone_tables.specs.declared.zone.ZoneTables.TheInside.{Inside}
use Rattle.state_core.specs.declared.placement.Placement.TheVariants.{At, Moving}
use Rattle.state_core.specs.Carrying.{relocated}
use Rattle.state_core.specs.Ending.{IsSettled, source_of}
use Rattle.state_core.specs.ZoneState.{ZoneState}
use Rattle.state_core.proofs.Facts.{not_none}
use Rattle.state_core.proofs.Settled.{can_go_back, back_recorded, frames_apart, source_within, target_in, swept_if_put_back}
use Rattle.zone_tables.proofs.MoveEnds.{back_frames, back_words, kept_movable, left_settled, source_still, target_on_way, source_left, source_listed, back_settled, some_on_the_way, ending_room}
use Rattle.zone_tables.proofs.UnmovablePages.{moving_movable}
use Rattle.zone_tables.proofs.Relocation.{Settling, FramesSettled, MovableSettled, settle_invariant, settle_view}
use Rattle.zone_tables.proofs.zone.ZoneTables.go_back.Given.{Over}
use Rattle.zone_tables.proofs.zone.ZoneTables.go_back.Goals as goal
use Rattle.zone_tables.proofs.zone.ZoneTables.go_back.Goals.{After-note}

pub go_back-requires : goal.go_back-requires
go_back-requires g c = some_on_the_way c.self.view_is c.self.invariant c.args.way.now.page c.requires.placed

pub leave-requires : goal.leave-requires
leave-requires g c = target_on_way c.self.view_is c.self.invariant c.args.way.now.page c.requires.placed

pub settle-requires : goal.settle-requires
settle-requires g c = source_still c.self.view_is c.self.invariant c.args.way.now.page c.requires.placed c.leave.new.self c.leave.ensures.state

pub place-requires : goal.place-requires
place-requires g c = ap is_some (placement_seen c.self.inside c.args.self.now c.self.view_is c.args.way.now.page ∙ c.requires.placed)

pub note-requires : goal.note-requires
note-requires g c = ending_room c.self.view_is c.self.invariant c.args.way.now.page c.requires.placed

-- the fields after the call
abbrev after : {g : Over} → After-note g → Inside g.row.W
after c = record c.self.inside {
  frames = c.settle.new.self;
  tables = c.to_present.new.self;
  notes = c.place.new.self;
  moves = c.go_back.new.self;
  history = c.note.new.self;
}

frames_are : {g : Over} (c : After-note g) → c.settle.new.self ≡ record { states = slice_set (slice_set c.self.inside.frames.states c.args.way.now.target Free) c.args.way.now.source (Holds c.args.way.now.page); movable = slice_set c.self.inside.frames.movable c.args.way.now.source c.can_move.result; unmovable = c.self.inside.frames.unmovable }
frames_are c = left_settled c.self.inside.frames c.leave.new.self c.settle.new.self _ _ _ _ c.leave.ensures.state c.settle.ensures.page

settling : {g : Over} (c : After-note g) → Settling c.self.inside (after c) c.args.self.now c.args.way.now.page (Moving c.args.way.now.serial c.args.way.now.source c.args.way.now.target) (At c.args.way.now.source) (Back c.args.cause c.args.way.now.serial) c.get-note.result c.args.self.now.migrate c.args.self.now.free
settling c =
    let z = c.self.inside in
    let v = c.args.self.now in
    let way = c.args.way.now in
    let sound = is_sound c.self.view_is c.self.invariant in
    let law = sound.valid in
    let at = c.requires.placed in
    let source_in = source_within v way.page way.serial way.source way.target law at in
    let target_here = target_in v way.page way.serial way.source way.target law at in
    record {
      sound = sound;
      view = c.self.view_is;
      can = can_go_back v way.page way.serial way.source way.target law at;
      recorded = back_recorded v way.page way.serial way.source way.target law at c.requires.here c.args.cause c.requires.cause;
      spare = omega (arith, ending_room c.self.view_is c.self.invariant c.args.way.now.page c.requires.placed, ap (λ (u : ZoneState). u.room) c.self.view_is);
      note_is = c.get-note.ensures;
      frames = subst (λ (fs : Frames). FramesSettled z.frames.states fs.states way.page (Moving way.serial way.source way.target) (At way.source)) (sym (frames_are c))
          (back_frames z.frames.states way.page way.serial way.source way.target (frames_apart v way.page way.serial way.source way.target law at) (omega (arith, source_in, sound.frames.count)) (omega (arith, target_here, sound.frames.count)));
      movable = subst (λ (fs : Frames). MovableSettled z.frames.movable fs.movable (can_move v way.page) (At way.source)) (sym (frames_are c))
          (kept_movable z.frames.movable (can_move v way.page) c.can_move.result way.source (omega (arith, source_in, sound.movable.count))
          (c.can_move.ensures ∙ movable_seen z v way.page c.get-note.result (note_seen c.self.view_is sound (not_none _ (Moving way.serial way.source way.target) at) c.get-note.ensures)));
      fixed = moving_movable v z.frames.unmovable sound.unmovable way.page way.serial way.source way.target at;
      counts = ap (λ (fs : Frames). fs.unmovable) (frames_are c);
      tables = c.to_present.ensures.replaced;
      words = back_words z.words.rows v sound.words way.serial way.source way.target source_in;
      notes = c.place.ensures c.get-note.result c.get-note.ensures;
      moves = subst (λ (moves : Moves). MovesFit moves (Back c.args.cause way.serial ∷ v.records)) (sym c.go_back.ensures)
          (record { isolated = sound.moves.isolated; moved = sound.moves.moved; back = ap (λ n. n + 1) sound.moves.back });
      fingers_are = ap (λ (u : ZoneState). record { migrate = u.migrate; free = u.free }) c.self.view_is;
      fingers = law.fingers.ordered;
      swept = swept_if_put_back v way.page way.serial way.source way.target law at c.args.cause;
      history = c.note.ensures;
      frames_same = c.to_present.ensures.frames;
      size_same = c.to_present.ensures.size;
      rest_same = refl;
      lent_same = refl;
      memory_same = refl;
      contents_same = refl;
    }

pub invariant_of-self : goal.invariant_of-self
invariant_of-self g c = settle_invariant (settling c)

pub returns-clause-step : goal.returns-clause-step
returns-clause-step g c =
    settle_view (settling c)
    ∙ ap (λ (frame : ℕ). relocated c.args.self.now (Back c.args.cause c.args.way.now.serial) c.args.way.now.page (At frame)) (sym (ap source_of c.requires.placed))

pub returns-clause-settled : goal.returns-clause-settled
returns-clause-settled g c =
    let way = c.args.way.now in
    let v = c.args.self.now in
    subst (λ (u : ZoneState). IsSettled v u way.page way.source way.target) (sym (settle_view (settling c)))
    (back_settled c.self.view_is c.self.invariant c.args.way.now.page c.requires.placed c.args.cause)

pub returns-clause-valid : goal.returns-clause-valid
returns-clause-valid g c = (invariant_of-self g c).valid

pub to_present-requires-clause-source_within : goal.to_present-requires-clause-source_within
to_present-requires-clause-source_within g c = source_listed c.self.view_is c.self.invariant c.args.way.now.page c.requires.placed

pub to_present-requires-clause-within : goal.to_present-requires-clause-within
to_present-requires-clause-within g c = source_listed c.self.view_is c.self.invariant c.args.way.now.page c.requires.placed

pub to_present-requires-clause-left : goal.to_present-requires-clause-left
to_present-requires-clause-left g c = source_left c.self.view_is c.self.invariant c.args.way.now.page c.requires.placed
