-- Counts of frames, one for each pageblock.
use Rattle.std.specs.Prelude.{◌≡◌, ℕ, ◌<◌, List, slice_get, Some}
use Rattle.frame_core.specs.declared.state.FrameState.{FrameState}
use Rattle.scan_core.specs.Frames.{free_in_block}

-- each of eight numbers is the count of the free frames of its pageblock
pub record CountsFree (counts : List ℕ) (states : List (FrameState ℕ)) : Type 0 where
  pub each : (block : ℕ) → block < 8 → slice_get counts block ≡ Some (free_in_block states block)
