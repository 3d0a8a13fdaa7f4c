-- The tables and the history of a zone in which nothing was done yet.
use Rattle.std.specs.Prelude.{◌≡◌, ℕ, ◌*◌, ◌≤◌, false, [], None, replicate}
use Rattle.std.specs.FinSet as set
use Rattle.frame_core.specs.Journal.{unrecorded_places}
use Rattle.scan_core.specs.Frames.{all_free}
use Rattle.state_core.specs.declared.size.ZoneSize.{ZoneSize}
use Rattle.table_core.specs.Tables.{IsBlank}
use Rattle.zone_tables.specs.Notes.{unused_note}
use Rattle.zone_tables.specs.declared.opening.Parts.{Parts}

-- these are those of an empty zone of this size, whose journal has so many places
pub record AreFresh (parts : Parts) (size : ZoneSize) (places : ℕ) : Type 0 where
  pub few : places ≤ unrecorded_places
  pub frames : parts.frames ≡ all_free size.blocks
  pub tables : IsBlank parts.tables.entries
  pub tables_frames : parts.tables.frames ≡ 512 * size.blocks
  pub tables_size : parts.tables.entries.size ≡ record { spaces = size.spaces; pages = size.vpages }
  pub notes : parts.notes ≡ replicate (512 * size.blocks) unused_note
  pub handed_out : parts.handed_out ≡ replicate (512 * size.blocks) None
  pub cleared : parts.cleared ≡ replicate (512 * size.blocks) false
  pub marks : parts.marks ≡ replicate size.blocks false
  pub claimed : parts.claimed.members ≡ set.empty
  pub claimed_room : 512 * size.blocks ≤ parts.claimed.bound
  pub history : parts.history ≡ record { records = []; room = places; round = None }
