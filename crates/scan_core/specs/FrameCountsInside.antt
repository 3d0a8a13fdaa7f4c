-- Counts of frames as they are kept.
use Rattle.std.specs.Prelude.{◌≡◌, ◌≤◌, ℕ, length, slice_index}
use Rattle.frame_core.specs.Below.{count_below}
use Rattle.scan_core.specs.FrameCounts.{is_all_counted, is_some_counted}
use Rattle.scan_core.specs.declared.frame_counts.FrameCounts.TheInside.{Inside}

-- the two numbers of pageblocks are those that the counts say, and no pageblock has more than its 512 frames counted
pub record IsTallied (c : Inside) : Type 0 where
  pub some : c.some ≡ count_below (is_some_counted c.counts.items) (length c.counts.items)
  pub whole : c.whole ≡ count_below (is_all_counted c.counts.items) (length c.counts.items)
  pub most : (block : ℕ) → slice_index c.counts.items block ≤ 512
  pub few : length c.counts.items ≤ 32768
