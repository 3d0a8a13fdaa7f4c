-- The state of a zone, one record, and what is read off it: which frames are free, whether the journal has room, and
-- whether the latest round is quiet.
use Rattle.std.specs.Prelude.{ℕ, ◌+◌, true, false, List, length, nat_eq, Option, Some, None, ◌-◌, ◌*◌, ◌/◌, ◌^◌, Bool, not, ◌&&◌, ◌||◌, ◌∷◌, take, nat_lt, nat_le, is_none, if◌then◌else◌}
use Rattle.std.specs.FinMap as map
use denote.RawPtr.{Ptr}
use Rattle.frame_core.specs.Address.{is_in_table}
use Rattle.frame_core.specs.declared.place.Address.{Address}
use Rattle.frame_core.specs.Moves.{out}
use Rattle.state_core.specs.declared.placement.Placement.{Placement}
use Rattle.state_core.specs.declared.placement.Placement.TheVariants.{At, Moving}
use Rattle.std.specs.List.{list_all}
use Rattle.std.specs.Option.{option_and_then, option_or}
use Rattle.std.specs.Ordering.{nat_cmp}
use Rattle.std.specs.FinSet as set
use Rattle.frame_core.specs.Below.{lowest, some_below, count_from}
use Rattle.frame_core.specs.declared.record.Record.{Record}
use Rattle.frame_core.specs.declared.record.Record.TheVariants.{Load, Store, Isolate, Moved}
use Rattle.frame_core.specs.History.{page_at}
use Rattle.state_core.specs.declared.round.RoundStart.{RoundStart}

-- the state of a zone, as contracts see it
pub record ZoneState : Type 0 where
  pub number : ℕ
  -- how many pageblocks it has
  pub blocks : ℕ
  -- how many address spaces it has, and how many virtual pages each of them has
  pub spaces : ℕ
  pub vpages : ℕ
  -- how many words a page has
  pub page_size : ℕ
  -- the journal, the newest record first
  pub records : List Record
  -- the number of places that are left in the journal
  pub room : ℕ
  -- the pages in use that were mapped as unmovable
  pub unmovable : set.FinSet nat_cmp
  -- the marked pageblocks
  pub marked : set.FinSet nat_cmp
  -- whether unmovable pages are mapped apart from the others
  pub apart : Bool
  -- the frames that are claimed: they hold nothing, and are kept for a block
  pub claimed : set.FinSet nat_cmp
  -- the order of each block that is handed out, by its first frame
  pub handed_out : map.FinMap nat_cmp ℕ
  -- the words of each block that is handed out, those of its frames one after the other, by its first frame
  pub contents : map.FinMap nat_cmp (List ℕ)
  -- the first frames of the blocks whose words are lent; the words of such a block are those that it had
  pub lent : set.FinSet nat_cmp
  -- the pages whose words are lent; the words of such a page are those that it had
  pub lent_pages : set.FinSet nat_cmp
  -- where the words of frame 0 begin, if the zone lies in memory of its caller; only such a zone lends words
  pub memory : Option Ptr
  -- where each page in use is
  pub placement : map.FinMap nat_cmp Placement
  -- the migrate finger and the free finger of the two scanners: frames, from 0 to the number of frames
  pub migrate : ℕ
  pub free : ℕ
  -- how the latest round began, if there was one
  pub round : Option RoundStart

-- the number of frames in a zone: 512 for each pageblock
abbrev pub frame_count : ZoneState → ℕ
frame_count z = 512 * z.blocks

-- whether an address is one of the zone's: in one of its spaces, among the virtual pages that each of them has
abbrev pub has_address : ZoneState → Address → Bool
has_address z address = is_in_table z.spaces z.vpages address

-- whether a page with this placement takes up a frame: the one that it is in, or the source or the target of its move
abbrev pub takes_up : Option Placement → ℕ → Bool
takes_up None frame = false
takes_up (Some (At f)) frame = nat_eq frame f
takes_up (Some (Moving serial source target)) frame = nat_eq frame source || nat_eq frame target

-- the frame that has the words of a page with this placement
abbrev pub words_frame : Placement → ℕ
words_frame (At frame) = frame
words_frame (Moving serial source target) = source

-- whether a frame is in a block of this order from this first frame on; false where the order is none
abbrev pub covers : Option ℕ → ℕ → ℕ → Bool
covers None first frame = false
covers (Some order) first frame = nat_le first frame && nat_lt frame (first + 2 ^ order)

-- whether some page takes a frame up; the numbers of pages are below the number of frames
abbrev pub is_used : ZoneState → ℕ → Bool
is_used z frame = some_below (λ page. takes_up (map.get z.placement page) frame) (frame_count z)

-- whether a frame is in a block that is handed out
abbrev pub is_handed_out : ZoneState → ℕ → Bool
is_handed_out z frame = some_below (λ first. covers (map.get z.handed_out first) first frame) (frame_count z)

-- whether a frame is held: it is in a block that is handed out, or claimed
abbrev pub is_held : ZoneState → ℕ → Bool
is_held z frame = is_handed_out z frame || set.contains z.claimed frame

-- whether a frame is of no page and isn't held
abbrev pub is_free : ZoneState → ℕ → Bool
is_free z frame = not (is_used z frame) && not (is_held z frame)

-- how many of the 512 frames of a pageblock are free
abbrev pub free_in_block : ZoneState → ℕ → ℕ
free_in_block z block = count_from (is_free z) (512 * block) 512

-- whether all 512 frames of a pageblock are free
abbrev pub is_whole : ZoneState → ℕ → Bool
is_whole z block = nat_eq (free_in_block z block) 512

-- the lowest free frame, if there is one
abbrev pub lowest_free_frame : ZoneState → Option ℕ
lowest_free_frame z = lowest (is_free z) (frame_count z)

-- whether a page with this placement is in a pageblock: it takes up a frame of it
abbrev pub is_in_block : Option Placement → ℕ → Bool
is_in_block None block = false
is_in_block (Some (At frame)) block = nat_eq (frame / 512) block
is_in_block (Some (Moving serial source target)) block = nat_eq (source / 512) block || nat_eq (target / 512) block

-- whether a page is unmovable and in a pageblock
abbrev pub is_unmovable_in : ZoneState → ℕ → ℕ → Bool
is_unmovable_in z block page = set.contains z.unmovable page && is_in_block (map.get z.placement page) block

-- whether an unmovable page is in a pageblock; the numbers of pages are below the number of frames
abbrev pub has_unmovable : ZoneState → ℕ → Bool
has_unmovable z block = some_below (is_unmovable_in z block) (frame_count z)

-- whether no pageblock has more free frames than this one
abbrev pub is_emptiest : ZoneState → ℕ → Bool
is_emptiest z block = not (some_below (λ other. nat_lt (free_in_block z block) (free_in_block z other)) z.blocks)

-- the lowest free frame of the pageblocks that pass, if there is one
abbrev pub lowest_free_where : ZoneState → (ℕ → Bool) → Option ℕ
lowest_free_where z passes = lowest (λ frame. is_free z frame && passes (frame / 512)) (frame_count z)

-- the frame for an unmovable page that is mapped apart: in a pageblock that has such a page, and else in the emptiest one
abbrev pub frame_with_unmovable : ZoneState → Option ℕ
frame_with_unmovable z = option_or (lowest_free_where z (has_unmovable z)) (lowest_free_where z (is_emptiest z))

-- whether a pageblock isn't whole and has no unmovable page
abbrev pub is_begun : ZoneState → ℕ → Bool
is_begun z block = not (is_whole z block) && not (has_unmovable z block)

-- the frame for another page then: in a pageblock without an unmovable page, one that isn't whole before one that is, and else the lowest
abbrev pub frame_without_unmovable : ZoneState → Option ℕ
frame_without_unmovable z = option_or (lowest_free_where z (is_begun z)) (option_or (lowest_free_where z (is_whole z)) (lowest_free_frame z))

-- the frame that a page is mapped to: the lowest free one, where unmovable pages aren't mapped apart
abbrev pub frame_for : ZoneState → Bool → Option ℕ
frame_for z unmovable =
    if not z.apart then lowest_free_frame z
    else if unmovable then frame_with_unmovable z
    else frame_without_unmovable z

-- the lowest page number that isn't in use, if there is one
abbrev pub lowest_unused_page : ZoneState → Option ℕ
lowest_unused_page z = lowest (λ page. is_none (map.get z.placement page)) (frame_count z)

-- whether the journal has a place for a call, besides those for the ends of the pages that are out
abbrev pub has_room : ZoneState → Bool
has_room z = nat_lt (length (out z.records)) z.room

-- the placement of the page that an address names, if it names one
abbrev pub placement_at : ZoneState → Address → Option Placement
placement_at z address = option_and_then (map.get z.placement) (page_at z.records address)

-- the zone with one more record
abbrev pub noted : ZoneState → Record → ZoneState
noted z entry = record z { records = entry ∷ z.records; room = z.room - 1 }

-- whether the call of this record leaves a quiet round quiet
abbrev pub keeps_quiet : Record → Bool
keeps_quiet (Load client address word value) = true
keeps_quiet (Store client address word value) = true
keeps_quiet (Isolate page serial) = true
keeps_quiet (Moved serial) = true
keeps_quiet _ = false

-- the records that were noted after the oldest n
abbrev pub since : ℕ → List Record → List Record
since n records = take (length records - n) records

-- whether, by these records, a round that began so is quiet: it began calm, and since then only calls were made that leave it quiet
abbrev pub is_quiet_since : List Record → Option RoundStart → Bool
is_quiet_since records None = false
is_quiet_since records (Some start) = start.calm && list_all keeps_quiet (since start.records records)

-- whether the latest round is quiet: it began calm, and since then only calls were made that leave it quiet
abbrev pub is_quiet : ZoneState → Bool
is_quiet z = is_quiet_since z.records z.round
