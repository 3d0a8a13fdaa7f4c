use Rattle.std.proofs.Common.{◌≡◌, ◌∙◌, ◌+◌, ◌∷◌, ℕ, List, refl, ap, subst, sym, arith}
use Rattle.std.specs.Prelude.{false, is_some, slice_set}
use Rattle.frame_core.specs.declared.state.FrameState.TheVariants.{Free, Holds}
use Rattle.frame_core.specs.declared.record.Record.TheVariants.{Moved}
use Rattle.frame_core.specs.LentWords.{IsHere}
use Rattle.frame_core.specs.Words.{words_of}
use Rattle.scan_core.specs.Frames.{Frames}
use Rattle.state_core.specs.Pairs.{can_move}
use Rattle.zone_tables.proofs.Facts.{Becomes, is_sound}
use Rattle.zone_tables.proofs.Tables.{placement_seen, words_seen, note_seen, movable_seen}
use Rattle.zone_tables.specs.Fits.{MovesFit}
use Rattle.zone_tables.specs.Moves.{Moves}
use Rattle.zone_tables.proofs.LendingMoves.{copied_rows, filled_holds, settled_back}
use Rattle.zone_tables.proofs.LentBlocks.{source_here, target_here}
use Rattle.zone_tables.specs.declared.zone.ZoneTables.TheInside.{Inside}
use Rattle.state_core.specs.declared.placement.Placement.TheVariants.{At, Moving}
use Rattle.state_core.specs.Carrying.{relocated, words_now}
use Rattle.state_core.specs.Ending.{IsSettled, target_of}
use Rattle.state_core.specs.LentMoves.{move_returned}
use Rattle.state_core.proofs.Entries.{contains_remove_same}
use Rattle.zone_tables.specs.Carried.{IfCopy, has_rows}
use Rattle.state_core.specs.ZoneState.{ZoneState}
use Rattle.state_core.proofs.Facts.{not_none}
use Rattle.state_core.proofs.Settled.{can_move_on, moved_recorded, frames_apart, source_within, target_in, swept_if_moved}
use Rattle.zone_tables.proofs.MoveEnds.{moved_frames, arrived_words, kept_movable, left_settled, target_still, source_on_way, source_left, source_listed, target_left, target_listed, source_row, target_row, two_frames, moved_settled, some_on_the_way, ending_room}
use Rattle.zone_tables.proofs.UnmovablePages.{moving_movable}
use Rattle.zone_tables.proofs.Relocation.{Settling, FramesSettled, MovableSettled, WordsSettled, settle_invariant, settle_view}
use Rattle.zone_tables.proofs.zone.ZoneTables.arrive_with.Given.{Over}
use Rattle.zone_tables.proofs.zone.ZoneTables.arrive_with.Goals as goal
use Rattle.zone_tables.proofs.zone.ZoneTables.arrive_with.Goals.{After-note}

pub arrive-requires : goal.arrive-requires
arrive-requires g c = some_on_the_way c.self.view_is c.self.invariant c.args.way.now.page c.requires.placed

pub leave-requires : goal.leave-requires
leave-requires g c = source_on_way c.self.view_is c.self.invariant c.args.way.now.page c.requires.placed

pub settle-requires : goal.settle-requires
settle-requires g c = target_still c.self.view_is c.self.invariant c.args.way.now.page c.requires.placed c.leave.new.self c.leave.ensures.state

pub fill_target-requires : goal.fill_target-requires
fill_target-requires g c =
    let sound = is_sound c.self.view_is c.self.invariant in
    let way = c.args.way.now in
    let apart = two_frames c.self.view_is c.self.invariant way.page c.requires.placed in
    let source = source_row c.self.view_is c.self.invariant way.page c.requires.placed in
    let target = target_row c.self.view_is c.self.invariant way.page c.requires.placed in
    let seen : words_of c.self.inside.words.rows way.source ≡ words_now c.args.self.now way.page = words_seen c.self.inside.words.rows c.args.self.now sound.words sound.valid way.page (Moving way.serial way.source way.target) c.requires.placed in
    let width = ap (λ (u : ZoneState). u.page_size) c.self.view_is in
    let of_source = sound.words.sized way.source (source_within c.args.self.now way.page way.serial way.source way.target sound.valid c.requires.placed) in
    let of_target = sound.words.sized way.target (target_in c.args.self.now way.page way.serial way.source way.target sound.valid c.requires.placed) in
    let copy = subst (λ (words : List ℕ). IfCopy c.args.carried (λ copy. copy.now ≡ words)) (sym seen) c.requires.copy in
    let here : has_rows c.args.carried ≡ false → IsHere c.self.inside.words way.source 1 × IsHere c.self.inside.words way.target 1 = λ off.
    (let back = c.requires.lent ∙ off in
    (source_here c.self.inside c.args.self.now sound way.page way.serial way.source way.target c.requires.placed back, target_here c.self.inside c.args.self.now sound way.page way.serial way.source way.target c.requires.placed back)) in
    (omega arith, (apart, (source, (target, (here, ((omega (arith, of_source, width), omega (arith, of_target, width)), (copy, copied_rows c.self.view_is c.self.invariant way.page c.requires.placed c.args.carried c.requires.rows)))))))

pub place-requires : goal.place-requires
place-requires g c = ap is_some (placement_seen c.self.inside c.args.self.now c.self.view_is c.args.way.now.page ∙ c.requires.placed)

pub note-requires : goal.note-requires
note-requires g c = ending_room c.self.view_is c.self.invariant c.args.way.now.page c.requires.placed

-- the fields after the call
abbrev after : {g : Over} → After-note g → Inside g.row.W
after c = record c.self.inside {
  frames = c.settle.new.self;
  tables = c.to_present.new.self;
  words = c.fill_target.new.words;
  notes = c.place.new.self;
  moves = c.arrive.new.self;
  history = c.note.new.self;
}

frames_are : {g : Over} (c : After-note g) → c.settle.new.self ≡ record { states = slice_set (slice_set c.self.inside.frames.states c.args.way.now.source Free) c.args.way.now.target (Holds c.args.way.now.page); movable = slice_set c.self.inside.frames.movable c.args.way.now.target c.can_move.result; unmovable = c.self.inside.frames.unmovable }
frames_are c = left_settled c.self.inside.frames c.leave.new.self c.settle.new.self _ _ _ _ c.leave.ensures.state c.settle.ensures.page

-- the words are in the target, and aren't lent any more
filled : {g : Over} (c : After-note g) → Becomes (record c.self.inside { words = c.fill_target.new.words }) (move_returned c.args.self.now c.args.way.now.page)
filled c =
    let way = c.args.way.now in
    let sound = is_sound c.self.view_is c.self.invariant in
    filled_holds c.self.view_is c.self.invariant way.page c.requires.placed c.fill_target.new.words (words_of c.self.inside.words.rows way.source)
    (sound.words.sized way.source (source_within c.args.self.now way.page way.serial way.source way.target sound.valid c.requires.placed)) c.fill_target.ensures.rows c.fill_target.ensures.at c.fill_target.ensures.lent

settling : {g : Over} (c : After-note g) → Settling (record c.self.inside { words = c.fill_target.new.words }) (after c) (move_returned c.args.self.now c.args.way.now.page) c.args.way.now.page (Moving c.args.way.now.serial c.args.way.now.source c.args.way.now.target) (At c.args.way.now.target) (Moved c.args.way.now.serial) c.get-note.result c.args.self.now.migrate c.args.self.now.free
settling {g = g} c =
    let z = c.self.inside in
    let old = c.args.self.now in
    let v = move_returned old c.args.way.now.page in
    let way = c.args.way.now in
    let was = is_sound c.self.view_is c.self.invariant in
    let sound = is_sound (filled c).1 (filled c).0 in
    let law = sound.valid in
    let at = c.requires.placed in
    let apart = frames_apart v way.page way.serial way.source way.target law at in
    let source_in = source_within v way.page way.serial way.source way.target law at in
    let target_within = target_in v way.page way.serial way.source way.target law at in
    record {
      sound = sound;
      view = (filled c).1;
      can = can_move_on v way.page way.serial way.source way.target law at;
      recorded = moved_recorded v way.page way.serial way.source way.target law at (contains_remove_same old.lent_pages way.page way.page refl) c.requires.unpinned;
      spare = omega (arith, ending_room c.self.view_is c.self.invariant c.args.way.now.page c.requires.placed, ap (λ (u : ZoneState). u.room) c.self.view_is);
      note_is = c.get-note.ensures;
      frames = subst (λ (fs : Frames). FramesSettled z.frames.states fs.states way.page (Moving way.serial way.source way.target) (At way.target)) (sym (frames_are c))
          (moved_frames z.frames.states way.page way.serial way.source way.target apart (omega (arith, source_in, sound.frames.count)) (omega (arith, target_within, sound.frames.count)));
      movable = subst (λ (fs : Frames). MovableSettled z.frames.movable fs.movable (can_move v way.page) (At way.target)) (sym (frames_are c))
          (kept_movable z.frames.movable (can_move v way.page) c.can_move.result way.target (omega (arith, target_within, sound.movable.count))
          (c.can_move.ensures ∙ movable_seen z old way.page c.get-note.result (note_seen c.self.view_is was (not_none _ (Moving way.serial way.source way.target) at) c.get-note.ensures)));
      fixed = moving_movable old z.frames.unmovable was.unmovable way.page way.serial way.source way.target at;
      counts = ap (λ (fs : Frames). fs.unmovable) (frames_are c);
      tables = c.to_present.ensures.replaced;
      words = subst (λ (rows : List (List ℕ)). WordsSettled v.page_size rows rows (Moving way.serial way.source way.target) (At way.target)) (sym c.fill_target.ensures.rows)
          (arrived_words z.words.rows way.serial way.source way.target (omega (arith, target_within, was.words.count)) apart (was.words.sized way.source source_in));
      notes = c.place.ensures c.get-note.result c.get-note.ensures;
      moves = subst (λ (moves : Moves). MovesFit moves (Moved way.serial ∷ v.records)) (sym c.arrive.ensures)
          (record { isolated = was.moves.isolated; moved = ap (λ n. n + 1) was.moves.moved; back = was.moves.back });
      fingers_are = ap (λ (u : ZoneState). record { migrate = u.migrate; free = u.free }) c.self.view_is;
      fingers = law.fingers.ordered;
      swept = swept_if_moved v way.page way.serial way.source way.target law at;
      history = c.note.ensures;
      frames_same = c.to_present.ensures.frames;
      size_same = c.to_present.ensures.size;
      rest_same = refl;
      lent_same = refl;
      memory_same = refl;
      contents_same = refl;
    }

pub invariant_of-self : goal.invariant_of-self
invariant_of-self g c = settle_invariant (settling c)

pub returns-clause-step : goal.returns-clause-step
returns-clause-step g c =
    settle_view (settling c)
    ∙ ap (λ (frame : ℕ). move_returned (relocated c.args.self.now (Moved c.args.way.now.serial) c.args.way.now.page (At frame)) c.args.way.now.page) (sym (ap target_of c.requires.placed))

pub returns-clause-settled : goal.returns-clause-settled
returns-clause-settled g c =
    let way = c.args.way.now in
    let v = c.args.self.now in
    subst (λ (u : ZoneState). IsSettled v u way.page way.target way.source) (sym (settle_view (settling c)))
    (settled_back (moved_settled c.self.view_is c.self.invariant c.args.way.now.page c.requires.placed))

pub returns-clause-valid : goal.returns-clause-valid
returns-clause-valid g c = (invariant_of-self g c).valid

pub to_present-requires-clause-source_within : goal.to_present-requires-clause-source_within
to_present-requires-clause-source_within g c = source_listed c.self.view_is c.self.invariant c.args.way.now.page c.requires.placed

pub to_present-requires-clause-within : goal.to_present-requires-clause-within
to_present-requires-clause-within g c = target_listed c.self.view_is c.self.invariant c.args.way.now.page c.requires.placed

pub to_present-requires-clause-left : goal.to_present-requires-clause-left
to_present-requires-clause-left g c = source_left c.self.view_is c.self.invariant c.args.way.now.page c.requires.placed

pub to_present-requires-clause-unnamed : goal.to_present-requires-clause-unnamed
to_present-requires-clause-unnamed g c = target_left c.self.view_is c.self.invariant c.args.way.now.page c.requires.placed
