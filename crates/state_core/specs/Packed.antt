-- A packed zone: in its unmarked pageblocks the free frames lie below all others.
use Rattle.std.specs.Prelude.{◌≡◌, ℕ, ◌*◌, ◌/◌, ◌<◌, ◌↔◌, Bool, true, false, not, ◌&&◌, nat_eq, Option, Some, None, is_some, IsTrue}
use Rattle.std.specs.FinMap as map
use Rattle.std.specs.FinSet as set
use Rattle.frame_core.specs.Below.{count_below, count_from, some_below}
use Rattle.state_core.specs.declared.placement.Placement.{Placement}
use Rattle.state_core.specs.declared.placement.Placement.TheVariants.{At, Moving}
use Rattle.state_core.specs.Pairs.{is_marked, is_free_unmarked}
use Rattle.state_core.specs.ZoneState.{ZoneState, frame_count, is_free, is_held, is_whole}

-- whether a frame is in an unmarked pageblock
abbrev pub is_unmarked : ZoneState → ℕ → Bool
is_unmarked z frame = not (is_marked z frame)

-- the place of a frame among those of unmarked pageblocks, counted upwards from 0
abbrev pub place_of : ZoneState → ℕ → ℕ
place_of z frame = count_below (is_unmarked z) frame

-- how many frames of unmarked pageblocks are free
abbrev pub unmarked_free : ZoneState → ℕ
unmarked_free z = count_below (is_free_unmarked z) (frame_count z)

-- a frame of an unmarked pageblock is free exactly where its place is below the number of free ones
pub record IsPacked (z : ZoneState) : Type 0 where
  pub each : (frame : ℕ) → frame < frame_count z → is_marked z frame ≡ false → IsTrue (is_free z frame) ↔ (place_of z frame < unmarked_free z)

-- the numbers are cut into runs of `size`, from 0 on: how many of the first n runs have only numbers that pass
abbrev pub whole_runs : (ℕ → Bool) → ℕ → ℕ → ℕ
whole_runs p size n = count_below (λ i. nat_eq (count_from p (size * i) size) size) n

-- how many aligned runs of `size` frames have only free frames of unmarked pageblocks
abbrev pub free_runs : ZoneState → ℕ → ℕ
free_runs z size = whole_runs (is_free_unmarked z) size (frame_count z / size)

-- how many unmarked pageblocks are whole
abbrev pub unmarked_whole : ZoneState → ℕ
unmarked_whole z = count_below (λ block. not (set.contains z.marked block) && is_whole z block) z.blocks

-- how many marked pageblocks are whole
abbrev pub marked_whole : ZoneState → ℕ
marked_whole z = count_below (λ block. set.contains z.marked block && is_whole z block) z.blocks

-- a placement gives each page of a zone a frame of its own that isn't held; the pages of marked pageblocks keep
-- theirs, and no other page comes into these
pub record IsPlacement (z : ZoneState) (place : ℕ → Option ℕ) : Type 0 where
  pub same_pages : (page : ℕ) → is_some (place page) ≡ is_some (map.get z.placement page)
  pub within : (page frame : ℕ) → place page ≡ Some frame → frame < frame_count z
  pub apart : (p q frame : ℕ) → place p ≡ Some frame → place q ≡ Some frame → p ≡ q
  pub clear : (page frame : ℕ) → place page ≡ Some frame → is_held z frame ≡ false
  pub marked : (page frame : ℕ) → is_marked z frame ≡ true → (place page ≡ Some frame) ↔ (map.get z.placement page ≡ Some (At frame))

-- the frame of a page with this placement, if it is in use and not moving
abbrev pub frame_of : Option Placement → Option ℕ
frame_of None = None
frame_of (Some (At frame)) = Some frame
frame_of (Some (Moving serial source target)) = None

-- the placement that the pages of a zone have now
abbrev pub places_now : ZoneState → ℕ → Option ℕ
places_now z page = frame_of (map.get z.placement page)

-- whether a frame that may be none is this frame
abbrev pub is_place : Option ℕ → ℕ → Bool
is_place None frame = false
is_place (Some f) frame = nat_eq frame f

-- whether a frame would be free if the pages had this placement
abbrev pub is_left_free : ZoneState → (ℕ → Option ℕ) → ℕ → Bool
is_left_free z place frame = not (some_below (λ page. is_place (place page) frame) (frame_count z)) && not (is_held z frame)

-- how many pageblocks would be whole if the pages had this placement
abbrev pub left_whole : ZoneState → (ℕ → Option ℕ) → ℕ
left_whole z place = whole_runs (is_left_free z place) 512 z.blocks

-- how many aligned runs of `size` frames of unmarked pageblocks would be free if the pages had this placement
abbrev pub left_runs : ZoneState → (ℕ → Option ℕ) → ℕ → ℕ
left_runs z place size = whole_runs (λ frame. is_unmarked z frame && is_left_free z place frame) size (frame_count z / size)
