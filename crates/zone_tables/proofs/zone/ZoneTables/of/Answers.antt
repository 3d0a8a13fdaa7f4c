use Rattle.std.proofs.Common.{◌≡◌, false, refl, subst, sym}
use Rattle.zone_tables.specs.declared.zone.ZoneTables.TheInside.{Inside}
use Rattle.state_core.specs.ZoneState.{ZoneState}
use Rattle.zone_tables.specs.Sound.{IsSound, state_of}
use Rattle.zone_tables.proofs.Opened.{IsFresh, opened, opened_view, opened_sound}
use Rattle.zone_tables.proofs.zone.ZoneTables.of.Given.{Over}
use Rattle.zone_tables.proofs.zone.ZoneTables.of.Goals as goal
use Rattle.zone_tables.proofs.zone.ZoneTables.of.Goals.{After-new}

abbrev new_zone : {g : Over} → After-new g → Inside g.row.W
new_zone c = record {
  number = c.args.number;
  size = c.args.size;
  frames = c.args.parts.frames;
  tables = c.args.parts.tables;
  words = c.args.words;
  notes = c.args.parts.notes;
  moves = c.none.result;
  handed_out = c.args.parts.handed_out;
  cleared = c.args.parts.cleared;
  marks = c.args.parts.marks;
  apart = false;
  claimed = c.args.parts.claimed;
  fingers = c.new.result;
  history = c.args.parts.history;
}

fresh : {g : Over} (c : After-new g) → IsFresh (new_zone c) c.args.number c.args.size c.args.parts.history.room
fresh c =
    let parts = c.requires.parts in
    record {
      allowed = c.requires.«open»;
      few = parts.few;
      number_is = refl;
      size_is = refl;
      frames = parts.frames;
      tables = parts.tables;
      tables_frames = parts.tables_frames;
      tables_size = parts.tables_size;
      here = c.requires.here;
      count = c.requires.words.0;
      sized = c.requires.words.1;
      notes = parts.notes;
      handed_out = parts.handed_out;
      cleared = parts.cleared;
      marked = parts.marks;
      apart = refl;
      claimed = parts.claimed;
      claimed_room = parts.claimed_room;
      fingers = c.new.ensures;
      moves = c.none.ensures;
      history = parts.history;
    }

view : {g : Over} (c : After-new g) → state_of (new_zone c) ≡ opened (new_zone c) c.args.number c.args.size c.args.parts.history.room
view c = opened_view (new_zone c) _ _ _ (fresh c)

pub invariant_of-result : goal.invariant_of-result
invariant_of-result g c = let P : ZoneState → Type 0 = λ v. IsSound (new_zone c) v in subst P (sym (view c)) (opened_sound (new_zone c) _ _ _ (fresh c))

pub returns : goal.returns
returns g c = view c
