-- The calls that open a zone: with a journal that is kept, or with one that is unrecorded.
use Rattle.std.specs.Prelude.{ℕ, ◌*◌, ◌<◌, ◌≤◌, false, Option, Some, None, [], IfSome}
use denote.RawPtr.{Ptr}
use Rattle.frame_core.specs.Journal.{unrecorded_places}
use Rattle.state_core.specs.ZoneState.{ZoneState}
use Rattle.state_core.specs.declared.size.ZoneSize.{ZoneSize}
use Rattle.std.specs.FinMap as map
use Rattle.std.specs.FinSet as set

-- a zone may have this many pageblocks: 1 to 32768
abbrev pub IsSize : ℕ → Type 0
IsSize blocks = (0 < blocks) × (blocks ≤ 32768)

-- a zone may have this size: so many pageblocks, 1 to 256 spaces with 1 to 16777216 virtual pages each, and at most 67108864 addresses
abbrev pub IsZoneSize : ZoneSize → Type 0
IsZoneSize size = IsSize size.blocks × (0 < size.spaces) × (size.spaces ≤ 256) × (0 < size.vpages) × (size.vpages ≤ 16777216) × (size.spaces * size.vpages ≤ 67108864)

-- the size of a zone with this many pageblocks that has as many addresses as a script's: 8 spaces with 4096 virtual pages each
abbrev pub size_of_blocks : ℕ → ZoneSize
size_of_blocks blocks = record { blocks = blocks; spaces = 8; vpages = 4096 }

-- the size of a zone
abbrev pub size_of : ZoneState → ZoneSize
size_of z = record { blocks = z.blocks; spaces = z.spaces; vpages = z.vpages }

-- a journal that is kept may have this many places: 1 to 65,536
abbrev pub HasPlaces : ℕ → Type 0
HasPlaces places = (0 < places) × (places ≤ 65536)

-- a zone may be opened with this many pageblocks and places in a journal that is kept: 1 to 8, and 1 to 65,536
abbrev pub IsOpenable : ℕ → ℕ → Type 0
IsOpenable blocks places = (0 < blocks) × (blocks ≤ 8) × (0 < places) × (places ≤ 65536)

-- a zone may be opened with this size, and with a journal that is kept in so many places, or is unrecorded where that is none
abbrev pub IsAllowed : ZoneSize → Option ℕ → Type 0
IsAllowed size places = IsZoneSize size × IfSome places HasPlaces

-- how many places a journal has that is kept in so many places, or is unrecorded where that is none
abbrev pub places_of : Option ℕ → ℕ
places_of None = unrecorded_places
places_of (Some places) = places

-- a zone that was just opened, with this many words in a page, of this size, in memory of its own: it has no page, no record, no block handed
-- out and no frame claimed
abbrev pub opened_sized : ℕ → ℕ → ZoneSize → ℕ → ZoneState
opened_sized words number size places = record {
  number = number;
  blocks = size.blocks;
  spaces = size.spaces;
  vpages = size.vpages;
  page_size = words;
  records = [];
  room = places;
  unmovable = set.empty;
  marked = set.empty;
  apart = false;
  claimed = set.empty;
  handed_out = map.empty;
  contents = map.empty;
  lent = set.empty;
  lent_pages = set.empty;
  memory = None;
  placement = map.empty;
  migrate = 0;
  free = 0;
  round = None;
}

-- a zone that was just opened in memory of its caller, where the words of frame 0 begin at this place
abbrev pub opened_in : Ptr → ℕ → ℕ → ZoneSize → ℕ → ZoneState
opened_in at words number size places = record (opened_sized words number size places) { memory = Some at }

-- a zone that was just opened, with this many words in a page, and with as many addresses as a script's zone
abbrev pub opened_with : ℕ → ℕ → ℕ → ℕ → ZoneState
opened_with words number blocks places = opened_sized words number (size_of_blocks blocks) places

-- a zone that was just opened, with eight words in a page
abbrev pub opened : ℕ → ℕ → ℕ → ZoneState
opened number blocks places = opened_with 8 number blocks places

-- a zone that was just opened with a journal that is unrecorded
abbrev pub opened_unrecorded : ℕ → ℕ → ℕ → ZoneState
opened_unrecorded size number blocks = opened_with size number blocks unrecorded_places
