-- A page with its flags and words, and the step that changes where a page in use is.
use Rattle.std.specs.Prelude.{ℕ, List, map as each}
use Rattle.std.specs.List.{range_with_len}
use Rattle.std.specs.FinMap as map
use Rattle.std.specs.FinSet as set
use Rattle.frame_core.specs.declared.flags.PageFlags.{PageFlags}
use Rattle.frame_core.specs.PageFlags.{page_flags}
use Rattle.frame_core.specs.declared.record.Record.{Record}
use Rattle.frame_core.specs.History.{last, dirty}
use Rattle.frame_core.specs.Page.{Page}
use Rattle.state_core.specs.declared.placement.Placement.{Placement}
use Rattle.state_core.specs.ZoneState.{ZoneState, noted}

-- the flags of a page: whether it was mapped as unmovable, and whether it was stored to
abbrev pub flags_of : ZoneState → ℕ → PageFlags
flags_of z page = page_flags (set.contains z.unmovable page) (dirty z.records page)

-- the last values of the words of a page
abbrev pub words_now : ZoneState → ℕ → List ℕ
words_now z page = each (last z.records page) (range_with_len 0 z.page_size)

-- a page with its flags and words, as it is carried between frames
abbrev pub page_now : ZoneState → ℕ → Page
page_now z page = record { zone = z.number; number = page; flags = flags_of z page; words = words_now z page }

-- the zone with one more record, and with another placement of a page in use: in a frame, or moving
abbrev pub relocated : ZoneState → Record → ℕ → Placement → ZoneState
relocated z entry page placement = record (noted z entry) { placement = map.insert z.placement page placement }
