-- What is true of every zone, whatever calls were made.
use Rattle.std.specs.Prelude.{◌≡◌, ◌≢◌, ℕ, ◌+◌, ◌*◌, ◌^◌, ◌<◌, ◌≤◌, ◌↔◌, Bool, true, false, List, length, nat_eq, Option, Some, None, is_some, IsSome, IsTrue}
use Rattle.std.specs.FinMap as map
use denote.RawPtr.{Ptr}
use Rattle.std.specs.FinSet as set
use Rattle.std.specs.Option.{option_map}
use Rattle.std.specs.Ordering.{nat_cmp}
use Rattle.frame_core.specs.Below.{count_below}
use Rattle.frame_core.specs.Address.{InTable}
use Rattle.frame_core.specs.declared.place.Address.{Address}
use Rattle.frame_core.specs.declared.record.Record.{Record}
use Rattle.frame_core.specs.Blocks.{handed_out_by, is_marked_by}
use Rattle.frame_core.specs.History.{page_at, maps, pins}
use Rattle.frame_core.specs.Moves.{out, is_out, page_of, IsWellEnded}
use Rattle.frame_core.specs.Truth.{IsTruthful}
use Rattle.state_core.specs.declared.placement.Placement.{Placement}
use Rattle.state_core.specs.declared.placement.Placement.TheVariants.{At, Moving}
use Rattle.state_core.specs.declared.round.RoundStart.{RoundStart}
use Rattle.state_core.specs.Swept.{SweptIfQuiet}
use Rattle.state_core.specs.ZoneState.{ZoneState, frame_count, takes_up, covers, is_free, is_held}

-- whether a placement is that of a page which is moving under this serial
abbrev pub is_under : Option Placement → ℕ → Bool
is_under None serial = false
is_under (Some (At frame)) serial = false
is_under (Some (Moving s source target)) serial = nat_eq s serial

-- a block of this order, 3 to 9, whose first frame is a multiple of its frames, in a zone of this many frames
pub record IsBlock (frames first order : ℕ) : Type 0 where
  pub low : 3 ≤ order
  pub high : order ≤ 9
  pub aligned : (k : ℕ) × (first ≡ k * 2 ^ order)
  pub within : first + 2 ^ order ≤ frames

-- the journal of a zone is valid, with this many places left in it
pub record HasValidJournal (records : List Record) (room : ℕ) : Type 0 where
  -- a journal has at most 2^53 places
  pub places : length records + room ≤ 2 ^ 53
  -- each load gave the last value stored, and each page that was isolated ended at most once
  pub truthful : IsTruthful records
  pub well_ended : IsWellEnded records
  -- the journal has a place for the end of each page that is out
  pub room_left : length (out records) ≤ room

-- the pages, the blocks and the marks of a zone with this many spaces of this many virtual pages are those that its journal tells of
pub record AgreesWithJournal (spaces vpages : ℕ) (records : List Record) (placement : map.FinMap nat_cmp Placement) (handed_out : map.FinMap nat_cmp ℕ) (marked : set.FinSet nat_cmp) : Type 0 where
  -- only an address of the zone names a page, and only a page in use; each page in use has 1 to 4 addresses and at most 255 pins
  pub named : (address : Address) (page : ℕ) → page_at records address ≡ Some page → InTable spaces vpages address × IsSome (map.get placement page)
  pub in_use : (page : ℕ) → IsSome (map.get placement page) → (0 < maps records page) × (maps records page ≤ 4) × (pins records page ≤ 255)
  -- a page is moving under exactly the serial that it is out with
  pub under_way : (page serial : ℕ) → IsTrue (is_under (map.get placement page) serial) ↔ (IsTrue (is_out records serial) × (page_of records serial ≡ Some page))
  -- the journal handed out these blocks, and marked these pageblocks
  pub handed : (first : ℕ) → map.get handed_out first ≡ handed_out_by records first
  pub marks : (block : ℕ) → set.contains marked block ≡ is_marked_by records block

-- the pages in use have valid places in a zone of this many frames; held tells which frames are held,
-- and fixed has the pages that are noted as unmovable
pub record HasValidPages (placement : map.FinMap nat_cmp Placement) (fixed : set.FinSet nat_cmp) (frames : ℕ) (held : ℕ → Bool) : Type 0 where
  pub numbered : (page : ℕ) → IsSome (map.get placement page) → page < frames
  -- a moving page goes to another frame
  pub elsewhere : (page serial source target : ℕ) → map.get placement page ≡ Some (Moving serial source target) → source ≢ target
  -- a frame is of one page at most; it is in the zone, and isn't held
  pub apart : (p q frame : ℕ) → takes_up (map.get placement p) frame ≡ true → takes_up (map.get placement q) frame ≡ true → p ≡ q
  pub within : (page frame : ℕ) → takes_up (map.get placement page) frame ≡ true → frame < frames
  pub clear : (page frame : ℕ) → takes_up (map.get placement page) frame ≡ true → held frame ≡ false
  -- each page that is noted as unmovable is in use
  pub unmovable : (page : ℕ) → set.contains fixed page ≡ true → IsSome (map.get placement page)

-- the blocks that are handed out, those whose words are away, and the frames that are claimed, in a zone of this many frames with this
-- many words a page, which lies in this memory of its caller if in any, are valid
pub record HasValidBlocks (frames page_size : ℕ) (handed_out : map.FinMap nat_cmp ℕ) (words : map.FinMap nat_cmp (List ℕ)) (away claimed : set.FinSet nat_cmp) (memory : Option Ptr) : Type 0 where
  -- each of them is a block of the zone, and no two of them overlap
  pub each : (first order : ℕ) → map.get handed_out first ≡ Some order → IsBlock frames first order
  pub disjoint : (a b frame : ℕ) → covers (map.get handed_out a) a frame ≡ true → covers (map.get handed_out b) b frame ≡ true → a ≡ b
  -- each of them has as many words as a page has for each of its frames, and there are no other words
  pub contents : (first : ℕ) → option_map length (map.get words first) ≡ option_map (λ order. 2 ^ order * page_size) (map.get handed_out first)
  -- the words of a block are lent only where it is handed out, in a zone that lies in memory of its caller
  pub lent : (first : ℕ) → set.contains away first ≡ true → IsSome (map.get handed_out first)
  pub lendable : (first : ℕ) → set.contains away first ≡ true → IsSome memory
  -- a claimed frame is in the zone, and in no block that is handed out
  pub claims : (frame : ℕ) → set.contains claimed frame ≡ true → frame < frames
  pub unclaimed : (first frame : ℕ) → covers (map.get handed_out first) first frame ≡ true → set.contains claimed frame ≡ false

-- the pages whose words are away are valid, by the records and the placements of a zone that lies in this memory of its caller if in any
pub record HasValidLoans (records : List Record) (placement : map.FinMap nat_cmp Placement) (away : set.FinSet nat_cmp) (memory : Option Ptr) : Type 0 where
  -- the words of a page are lent only while it is in use, and while it rests in a frame only where it has a pin, in a zone that lies in
  -- memory of its caller
  pub used : (page : ℕ) → set.contains away page ≡ true → IsSome (map.get placement page)
  pub pinned : (page frame : ℕ) → set.contains away page ≡ true → map.get placement page ≡ Some (At frame) → 0 < pins records page
  pub lendable : (page : ℕ) → set.contains away page ≡ true → IsSome memory

-- the fingers of a zone are valid, and its latest round
pub record HasValidFingers (z : ZoneState) : Type 0 where
  -- the fingers are in the zone, in order, and the latest round began when the journal had no more records than now
  pub ordered : (z.migrate ≤ z.free) × (z.free ≤ frame_count z)
  pub begun : (start : RoundStart) → z.round ≡ Some start → start.records ≤ length z.records
  -- while the latest round is quiet, no page is left below the migrate finger, and no frame is free from the free finger on
  pub swept : SweptIfQuiet z

-- what is true of every zone
pub record IsValidZone (z : ZoneState) : Type 0 where
  -- a zone has 1 to 32768 pageblocks
  pub size : (0 < z.blocks) × (z.blocks ≤ 32768)
  -- it has at most 256 address spaces, with at most 16777216 virtual pages each
  pub addresses : (z.spaces ≤ 256) × (z.vpages ≤ 16777216)
  pub journal : HasValidJournal z.records z.room
  pub agrees : AgreesWithJournal z.spaces z.vpages z.records z.placement z.handed_out z.marked
  pub pages : HasValidPages z.placement z.unmovable (frame_count z) (is_held z)
  pub blocks : HasValidBlocks (frame_count z) z.page_size z.handed_out z.contents z.lent z.claimed z.memory
  pub loans : HasValidLoans z.records z.placement z.lent_pages z.memory
  pub fingers : HasValidFingers z
  -- each frame is free, or of a page, or held; a moving page has two frames
  pub sum : count_below (is_free z) (frame_count z) + count_below (λ page. is_some (map.get z.placement page)) (frame_count z) + length (out z.records) + count_below (is_held z) (frame_count z) ≡ frame_count z
