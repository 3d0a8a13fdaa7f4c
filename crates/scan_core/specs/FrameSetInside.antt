-- What contracts see of the fields of a counted set of frames, and what is true of these fields.
use Rattle.std.specs.Prelude.{◌≡◌, ◌*◌, ◌≤◌, length}
use Rattle.std.specs.FinSet as set
use Rattle.scan_core.specs.BlockGroups.{IsGrouped}
use Rattle.scan_core.specs.FrameSet.{Counts, FrameNumbers}
use Rattle.scan_core.specs.WholeRuns.{HasWholeRuns, IsOpen}
use Rattle.scan_core.specs.declared.frame_set.FrameSet.TheInside.{Inside}

-- the frames of the set, how many frames its pageblocks have, and how many unmovable pages
abbrev pub frames_in : Inside → FrameNumbers
frames_in s = record { members = s.numbers.members; bound = 512 * length s.blocks; unmovable = s.groups.unmovable.items }

-- the counts are those of the set's frames, each frame of its pageblocks has a number, and the whole blocks of each order and the
-- groups of pageblocks are those that the frames make
pub record IsCounted (s : Inside) : Type 0 where
  pub counts : Counts s.count s.blocks (set.contains s.numbers.members)
  pub room : 512 * length s.blocks ≤ s.numbers.bound
  pub few : 512 * length s.blocks ≤ 16777216
  pub runs_open : IsOpen s.runs
  pub runs_blocks : s.runs.blocks ≡ length s.blocks
  pub runs : HasWholeRuns s.runs (set.contains s.numbers.members)
  pub groups : IsGrouped s.groups s.blocks
