-- What the flags of a page say.
use Rattle.std.specs.Prelude.{◌+◌, ◌==◌, Bool, if◌then◌else◌}
use Rattle.std.specs.Int.RustNames.{bit_and}
use Rattle.frame_core.specs.declared.flags.PageFlags.{PageFlags}

-- whether the page was mapped as unmovable
abbrev pub is_unmovable : PageFlags → Bool
is_unmovable flags = bit_and flags.0 1 == 1

-- whether the page was stored to since it was mapped
abbrev pub is_dirty : PageFlags → Bool
is_dirty flags = bit_and flags.0 2 == 2

-- the flags of a page that was mapped as unmovable or not, and that was stored to or not
abbrev pub page_flags : Bool → Bool → PageFlags
page_flags unmovable dirty = record { 0 = (if unmovable then 1 else 0) + (if dirty then 2 else 0) }
