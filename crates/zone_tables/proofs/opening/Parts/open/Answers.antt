use Rattle.zone_tables.proofs.Opened.{few_places}
use Rattle.zone_tables.proofs.opening.Parts.open.Goals as goal

pub returns : goal.returns
returns c = record {
  few = few_places c.args.places c.requires.places;
  frames = c.in_ok-frames.ensures.frames;
  tables = c.in_ok-frames.ensures.tables.0;
  tables_frames = c.in_ok-frames.ensures.tables.1;
  tables_size = c.in_ok-frames.ensures.size;
  notes = c.in_ok-notes.ensures;
  handed_out = c.in_ok-handed_out.ensures.handed_out;
  cleared = c.in_ok-handed_out.ensures.cleared;
  marks = c.in_ok-handed_out.ensures.marks;
  claimed = c.in_ok-handed_out.ensures.claimed;
  claimed_room = c.in_ok-handed_out.ensures.room;
  history = c.in_ok-history.ensures;
}
