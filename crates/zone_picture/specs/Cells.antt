-- What the frames of a zone are drawn as.
use Rattle.std.specs.Prelude.{ℕ, ◌*◌, Bool, true, false, List, map, Option, Some, slice_get}
use Rattle.std.specs.List.{range_with_len}
use Rattle.frame_core.specs.declared.state.FrameState.{FrameState}
use Rattle.frame_core.specs.declared.state.FrameState.TheVariants.{Free, Holds, Huge, Source, Target}
use Rattle.scan_core.specs.Frames.{Frames, true_at}
use Rattle.zone_picture.specs.declared.cell.Cell.{Cell}
use Rattle.zone_picture.specs.declared.cell.Cell.TheVariants as cell

-- what a frame in this state is drawn as, where the page that it holds may be moved or not
abbrev pub cell_of : FrameState ℕ → Bool → Cell
cell_of Free movable = cell.Free
cell_of (Holds page) true = cell.Page
cell_of (Holds page) false = cell.Fixed
cell_of (Source page) movable = cell.Source
cell_of (Target page) movable = cell.Target
cell_of Huge movable = cell.HandedOut

-- the same of a frame that may be none of the zone
abbrev pub cell_by : Option (FrameState ℕ) → Bool → Cell
cell_by (Some state) movable = cell_of state movable
cell_by _ movable = cell.Free

abbrev pub cell_at : Frames → ℕ → Cell
cell_at frames frame = cell_by (slice_get frames.states frame) (true_at frames.movable frame)

-- the frames of a pageblock, in their order
abbrev pub cells_of : Frames → ℕ → List Cell
cells_of frames block = map (cell_at frames) (range_with_len (512 * block) 512)
