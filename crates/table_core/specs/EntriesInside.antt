-- How the frame of each address, and the frames that moving pages left, make up the entries of a zone's tables.
use Rattle.std.specs.Prelude.{◌≡◌, ℕ, ◌*◌, ◌<◌, Bool, true, false, List, length, map as each, slice_get, unwrap_or, Option, Some, None}
use Rattle.table_core.specs.declared.entry.Entry.{Entry}
use Rattle.table_core.specs.declared.entry.Entry.TheVariants.{Absent, Present, Migration}
use Rattle.table_core.specs.declared.size.Size.{Size}

-- whether a frame's page left it and is moving
abbrev pub is_left : List Bool → ℕ → Bool
is_left left frame = unwrap_or (slice_get left frame) false

-- the entry of an address that is listed under a frame, given whether the page left this frame
abbrev pub entry_under : ℕ → Bool → Entry
entry_under frame false = Present frame
entry_under frame true = Migration frame

-- the entry of an address, given the frame under which it is listed, if it is listed
abbrev pub entry_by : List Bool → Option ℕ → Entry
entry_by left None = Absent
entry_by left (Some frame) = entry_under frame (is_left left frame)

-- the entry of each address, made from the two lists
abbrev pub entries_of : List Bool → List (Option ℕ) → List Entry
entries_of left frames = each (entry_by left) frames

-- the list of frames has a place for each address, and the other one for each frame that an address is listed under
pub record AreKept (size : Size) (left : List Bool) (frames : List (Option ℕ)) : Type 0 where
  pub count : length frames ≡ size.spaces * size.pages
  pub within : (place frame : ℕ) → slice_get frames place ≡ Some (Some frame) → frame < length left
