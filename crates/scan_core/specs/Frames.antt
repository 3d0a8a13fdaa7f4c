-- The frames of a zone.
use Rattle.std.specs.Prelude.{ℕ, ◌*◌, ◌/◌, Bool, true, false, not, ◌&&◌, ◌||◌, List, length, replicate, nat_eq, slice_get, unwrap_or, Option, Some, None}
use Rattle.frame_core.specs.Below.{count_below, count_from}
use Rattle.frame_core.specs.declared.state.FrameState.{FrameState}
use Rattle.frame_core.specs.declared.state.FrameState.TheVariants.{Free, Holds, Huge, Source, Target}

-- the frames of a zone, in two lists with a place for each frame, and a list with a place for each pageblock
pub record Frames : Type 0 where
  -- what each frame is used for
  pub states : List (FrameState ℕ)
  -- whether the page that a frame holds may be taken from it
  pub movable : List Bool
  -- how many unmovable pages each pageblock has
  pub unmovable : List ℕ

-- a zone of this many pageblocks in which each frame is free
abbrev pub all_free : ℕ → Frames
all_free blocks = record { states = replicate (512 * blocks) Free; movable = replicate (512 * blocks) false; unmovable = replicate blocks 0 }

-- whether there is a frame, and it is free
abbrev pub is_free_state : Option (FrameState ℕ) → Bool
is_free_state (Some Free) = true
is_free_state _ = false

-- whether there is a frame, and it holds a page that isn't moving
abbrev pub is_holding_state : Option (FrameState ℕ) → Bool
is_holding_state (Some (Holds page)) = true
is_holding_state _ = false

-- the page that a frame holds, if there is a frame and it holds a page that isn't moving
abbrev pub page_held : Option (FrameState ℕ) → Option ℕ
page_held (Some (Holds page)) = Some page
page_held _ = None

-- whether there is a frame, and it is of a block that is handed out
abbrev pub is_huge_state : Option (FrameState ℕ) → Bool
is_huge_state (Some Huge) = true
is_huge_state _ = false

-- whether there is a frame, and it is the source or the target of a moving page
abbrev pub is_way_state : Option (FrameState ℕ) → Bool
is_way_state (Some (Source serial)) = true
is_way_state (Some (Target serial)) = true
is_way_state _ = false

-- whether there is a frame, and it is the source of a moving page
abbrev pub is_leaving_state : Option (FrameState ℕ) → Bool
is_leaving_state (Some (Source page)) = true
is_leaving_state _ = false

-- whether there is a frame, and it is handed out, or holds a page that isn't movable
abbrev pub is_stuck_state : Option (FrameState ℕ) → Bool → Bool
is_stuck_state state movable = is_huge_state state || (is_holding_state state && not movable)

-- whether there is a frame, and it holds a movable page that isn't moving
abbrev pub is_source_state : Option (FrameState ℕ) → Bool → Bool
is_source_state state movable = is_holding_state state && movable

-- whether a frame in the list is free
abbrev pub free_at : List (FrameState ℕ) → ℕ → Bool
free_at states frame = is_free_state (slice_get states frame)

-- whether a frame in the list holds a page that isn't moving
abbrev pub holds_at : List (FrameState ℕ) → ℕ → Bool
holds_at states frame = is_holding_state (slice_get states frame)

-- whether a frame in the list is held: of a block that is handed out, or alone
abbrev pub huge_at : List (FrameState ℕ) → ℕ → Bool
huge_at states frame = is_huge_state (slice_get states frame)

-- whether a frame in the list is the source or the target of a moving page
abbrev pub way_at : List (FrameState ℕ) → ℕ → Bool
way_at states frame = is_way_state (slice_get states frame)

-- whether a page is leaving a frame in the list
abbrev pub leaving_at : List (FrameState ℕ) → ℕ → Bool
leaving_at states frame = is_leaving_state (slice_get states frame)

-- whether a list of booleans has true at a place
abbrev pub true_at : List Bool → ℕ → Bool
true_at flags place = unwrap_or (slice_get flags place) false

-- whether a frame in the list is handed out, or holds a page that isn't movable
abbrev pub stuck_at : List (FrameState ℕ) → List Bool → ℕ → Bool
stuck_at states movable frame = is_stuck_state (slice_get states frame) (true_at movable frame)

-- whether a frame in the list holds a movable page that isn't moving
abbrev pub source_at : List (FrameState ℕ) → List Bool → ℕ → Bool
source_at states movable frame = is_source_state (slice_get states frame) (true_at movable frame)

-- whether a frame is open: it is free, or holds a page that may be taken from it
abbrev pub is_open_at : Frames → ℕ → Bool
is_open_at frames frame = free_at frames.states frame || source_at frames.states frames.movable frame

-- how many frames are free
abbrev pub free_frames : List (FrameState ℕ) → ℕ
free_frames states = count_below (free_at states) (length states)

-- how many of the 512 frames of a pageblock are free
abbrev pub free_in_block : List (FrameState ℕ) → ℕ → ℕ
free_in_block states block = count_from (free_at states) (512 * block) 512

-- whether all 512 frames of a pageblock are free
abbrev pub is_whole : List (FrameState ℕ) → ℕ → Bool
is_whole states block = nat_eq (free_in_block states block) 512

-- how many pageblocks the frames make
abbrev pub blocks_of : List (FrameState ℕ) → ℕ
blocks_of states = length states / 512
