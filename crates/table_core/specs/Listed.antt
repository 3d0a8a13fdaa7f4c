-- How the lists of addresses that each frame has agree with the entries of a zone's tables.
use Rattle.std.specs.Prelude.{◌≡◌, ◌≢◌, ℕ, ◌<◌, ◌≤◌, true, List, length, slice_get, Some}
use Rattle.frame_core.specs.Address.{InRange}
use Rattle.frame_core.specs.declared.place.Address.{Address}
use Rattle.table_core.specs.declared.entry.Entry.TheVariants.{Absent}
use Rattle.table_core.specs.Names.{AreJust}
use Rattle.table_core.specs.Tables.{EntryTable, entry_at, is_listed}

-- a list has exactly the addresses that are listed under its frame, four at most
pub record IsListOf (entries : EntryTable) (frame : ℕ) (names : List Address) : Type 0 where
  pub few : length names ≤ 4
  pub just : AreJust names (λ a. is_listed (entry_at entries a) frame ≡ true)

-- each frame has its list, and each address that names something is in range and listed under a frame of the zone
pub record AreListed (entries : EntryTable) (lists : List (List Address)) : Type 0 where
  pub in_range : (a : Address) → entry_at entries a ≢ Absent → InRange a
  pub each : (frame : ℕ) (names : List Address) → slice_get lists frame ≡ Some names → IsListOf entries frame names
  pub within : (a : Address) (frame : ℕ) → is_listed (entry_at entries a) frame ≡ true → frame < length lists
