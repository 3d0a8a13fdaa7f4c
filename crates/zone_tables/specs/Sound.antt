-- What contracts see of the fields of a zone, and what is true of them.
use Rattle.std.specs.Prelude.{◌≡◌, ℕ, ◌*◌, ◌≤◌, length}
use Rattle.zone_tables.specs.declared.zone.ZoneTables.TheInside.{Inside}
use Rattle.state_core.specs.ZoneState.{ZoneState, frame_count}
use Rattle.state_core.specs.Valid.{IsValidZone}
use Rattle.zone_tables.specs.Contents.{contents_at, memory_of}
use Rattle.zone_tables.specs.Fits.{table_size, FramesFit, EntriesFit, WordsFit, LentFit, ClearedFit, NotesFit, MovesFit, MovableFit, UnmovableFit}
use Rattle.zone_tables.specs.HandedOut.{order_of, is_lent_at}
use Rattle.zone_tables.specs.LentPages.{pages_lent}
use Rattle.zone_tables.specs.Notes.{placement_of, is_unmovable_of}
use Rattle.scan_core.specs.Frames.{true_at}
use Rattle.scan_core.specs.NumberSet.{gathered}
use Rattle.zone_tables.specs.Tabulated.{tabulated}

-- the state that contracts see, read off the fields
abbrev pub state_of : {W : ℕ} → Inside W → ZoneState
state_of {W} z = record {
  number = z.number;
  blocks = z.size.blocks;
  spaces = z.size.spaces;
  vpages = z.size.vpages;
  page_size = W;
  records = z.history.records;
  room = z.history.room;
  unmovable = gathered (is_unmovable_of z.notes) (length z.notes);
  marked = gathered (true_at z.marks) (length z.marks);
  apart = z.apart;
  claimed = z.claimed.members;
  handed_out = tabulated (order_of z.handed_out) (length z.handed_out);
  contents = tabulated (contents_at W z.words.rows z.cleared z.handed_out) (length z.handed_out);
  lent = gathered (is_lent_at z.words.lent z.handed_out) (length z.handed_out);
  lent_pages = pages_lent z.words.lent (tabulated (placement_of z.notes) (length z.notes)) (512 * z.size.blocks);
  memory = memory_of z.words;
  placement = tabulated (placement_of z.notes) (length z.notes);
  migrate = z.fingers.migrate;
  free = z.fingers.free;
  round = z.history.round;
}

-- the state is valid, and each field stands for its part of it
pub record IsSound {W : ℕ} (z : Inside W) (v : ZoneState) : Type 0 where
  pub valid : IsValidZone v
  pub orders : length z.handed_out ≡ frame_count v
  pub cleared : ClearedFit z.cleared (frame_count v) v.lent
  pub marks : length z.marks ≡ v.blocks
  pub claimed : frame_count v ≤ z.claimed.bound
  pub frames : FramesFit z.frames.states v
  pub movable : MovableFit z.frames.movable v
  pub unmovable : UnmovableFit z.frames.unmovable v
  pub tables : z.tables.frames ≡ frame_count v
  pub size : z.tables.entries.size ≡ table_size v
  pub entries : EntriesFit z.tables.entries v
  pub words : WordsFit z.words.rows v
  pub lent : LentFit z.words.lent v.handed_out v.lent v.placement v.lent_pages
  pub notes : NotesFit z.notes v
  pub moves : MovesFit z.moves v.records
