-- How the tables of a zone stand for its state.
use Rattle.std.specs.Prelude.{◌≡◌, ℕ, ◌^◌, ◌<◌, Bool, true, false, List, length, nat_eq, if◌then◌else◌, slice_get, Option, Some, None, IsSome}
use Rattle.std.specs.FinMap as map
use Rattle.std.specs.FinSet as set
use Rattle.frame_core.specs.Below.{count_below}
use Rattle.std.specs.Ordering.{nat_cmp}
use Rattle.frame_core.specs.Address.{InRange}
use Rattle.frame_core.specs.declared.place.Address.{Address}
use Rattle.frame_core.specs.declared.state.FrameState.{FrameState}
use Rattle.frame_core.specs.declared.state.FrameState.TheVariants.{Free, Holds, Source, Target, Huge}
use Rattle.frame_core.specs.declared.record.Record.{Record}
use Rattle.frame_core.specs.History.{last, dirty, pins, maps}
use Rattle.frame_core.specs.Moves.{isolated, moved, put_back}
use Rattle.table_core.specs.declared.entry.Entry.{Entry}
use Rattle.table_core.specs.declared.entry.Entry.TheVariants.{Absent, Present, Migration}
use Rattle.table_core.specs.declared.size.Size.{Size}
use Rattle.table_core.specs.Tables.{EntryTable, entry_at}
use Rattle.frame_core.specs.FrameSet.{has_frame, HasEach}
use Rattle.frame_core.specs.Words.{words_of}
use Rattle.scan_core.specs.Frames.{true_at}
use Rattle.zone_tables.specs.Moves.{Moves}
use Rattle.zone_tables.specs.declared.note.PageNote.{PageNote}
use Rattle.state_core.specs.declared.placement.Placement.{Placement}
use Rattle.state_core.specs.declared.placement.Placement.TheVariants.{At, Moving}
use Rattle.state_core.specs.Pairs.{can_move}
use Rattle.state_core.specs.ZoneState.{ZoneState, covers, frame_count, is_free, is_held, is_unmovable_in, placement_at, takes_up, words_frame}

-- the state that a page with this number and placement gives to a frame, if it takes the frame up
abbrev pub state_by : ℕ → Option Placement → ℕ → Option (FrameState ℕ)
state_by page None frame = None
state_by page (Some (At f)) frame = if nat_eq frame f then Some (Holds page) else None
state_by page (Some (Moving serial source target)) frame =
    if nat_eq frame source then Some (Source page) else if nat_eq frame target then Some (Target page) else None

-- the entry of an address whose page has this placement
abbrev pub entry_for : Option Placement → Entry
entry_for None = Absent
entry_for (Some (At frame)) = Present frame
entry_for (Some (Moving serial source target)) = Migration source

-- each frame has the state that its page or its block gives to it, and is free where it has neither
pub record FramesFit (frames : List (FrameState ℕ)) (v : ZoneState) : Type 0 where
  pub count : length frames ≡ frame_count v
  pub of_page : (page frame : ℕ) (state : FrameState ℕ) → state_by page (map.get v.placement page) frame ≡ Some state → slice_get frames frame ≡ Some state
  pub of_block : (frame : ℕ) → frame < frame_count v → is_held v frame ≡ true → slice_get frames frame ≡ Some Huge
  pub of_none : (frame : ℕ) → frame < frame_count v → is_free v frame ≡ true → slice_get frames frame ≡ Some Free

-- the size of the tables of a zone: they have all of its addresses
abbrev pub table_size : ZoneState → Size
table_size v = record { spaces = v.spaces; pages = v.vpages }

-- each address has the entry that the placement of its page asks for
pub record EntriesFit (entries : EntryTable) (v : ZoneState) : Type 0 where
  pub each : (address : Address) → InRange address → entry_at entries address ≡ entry_for (placement_at v address)

-- each word of a page in use is the value that was stored there last
pub record WordsFit (rows : List (List ℕ)) (v : ZoneState) : Type 0 where
  pub count : length rows ≡ frame_count v
  pub sized : (frame : ℕ) → frame < frame_count v → length (words_of rows frame) ≡ v.page_size
  pub each : (page : ℕ) (placement : Placement) (word : ℕ) → map.get v.placement page ≡ Some placement → word < v.page_size → slice_get (words_of rows (words_frame placement)) word ≡ Some (last v.records page word)

-- the frames of a block are lent where its words are away, and so is each frame that a page takes up; no other frame is lent
pub record LentFit (lent : List Bool) (handed_out : map.FinMap nat_cmp ℕ) (away : set.FinSet nat_cmp) (placement : map.FinMap nat_cmp Placement) (away_pages : set.FinSet nat_cmp) : Type 0 where
  pub of_block : (first order : ℕ) → map.get handed_out first ≡ Some order → HasEach lent first (2 ^ order) (set.contains away first)
  pub of_page : (page frame : ℕ) → takes_up (map.get placement page) frame ≡ true → has_frame lent frame ≡ set.contains away_pages page
  pub others : (frame : ℕ) → ((first : ℕ) → covers (map.get handed_out first) first frame ≡ false) → ((page : ℕ) → takes_up (map.get placement page) frame ≡ false) → has_frame lent frame ≡ false

-- each frame has its place in the list of cleared blocks, and a block whose words are away was cleared
pub record ClearedFit (cleared : List Bool) (frames : ℕ) (away : set.FinSet nat_cmp) : Type 0 where
  pub count : length cleared ≡ frames
  pub lent : (first : ℕ) → set.contains away first ≡ true → true_at cleared first ≡ true

-- the note of a page in use says what the journal says of the page
pub record NoteFits (note : PageNote) (v : ZoneState) (page : ℕ) : Type 0 where
  pub dirty : note.dirty ≡ dirty v.records page
  pub pins : note.pins ≡ pins v.records page
  pub maps : note.maps ≡ maps v.records page

-- each page number has a note, and the note of each page in use says what the journal says
pub record NotesFit (notes : List PageNote) (v : ZoneState) : Type 0 where
  pub count : length notes ≡ frame_count v
  pub each : (page : ℕ) (note : PageNote) → slice_get notes page ≡ Some note → IsSome note.placement → NoteFits note v page

-- a frame that holds a page is noted as movable exactly where the page may be taken from it
pub record MovableFit (movable : List Bool) (v : ZoneState) : Type 0 where
  pub count : length movable ≡ frame_count v
  pub each : (page frame : ℕ) → map.get v.placement page ≡ Some (At frame) → slice_get movable frame ≡ Some (can_move v page)

-- the unmovable pages of each pageblock are counted, and each unmovable page rests in its frame
pub record UnmovableFit (counts : List ℕ) (v : ZoneState) : Type 0 where
  pub count : length counts ≡ v.blocks
  pub each : (block : ℕ) → block < v.blocks → slice_get counts block ≡ Some (count_below (is_unmovable_in v block) (frame_count v))
  pub rest : (page : ℕ) → set.contains v.unmovable page ≡ true → (frame : ℕ) × (map.get v.placement page ≡ Some (At frame))

-- the moves are counted as the journal tells of them
pub record MovesFit (moves : Moves) (records : List Record) : Type 0 where
  pub isolated : moves.isolated ≡ isolated records
  pub moved : moves.moved ≡ moved records
  pub back : moves.back ≡ put_back records
