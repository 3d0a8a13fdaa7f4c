-- Free runs of frames, and frames that change together.
use Rattle.std.specs.Prelude.{ℕ, zero, suc, ◌+◌, ◌^◌, Bool, ◌&&◌, List, length, nat_le, slice_set, Option}
use Rattle.frame_core.specs.Below.{lowest}
use Rattle.frame_core.specs.Order.{is_aligned}
use Rattle.frame_core.specs.declared.state.FrameState.{FrameState}
use Rattle.scan_core.specs.Frames.{free_at}
use Rattle.scan_core.specs.NumberSet.{all_from}

-- whether a block of this order may begin at a frame: it is aligned, and all of it is in the list
abbrev pub has_block : List (FrameState ℕ) → ℕ → ℕ → Bool
has_block states order first = is_aligned order first && nat_le (first + 2 ^ order) (length states)

-- whether a block of this order may begin at a frame, and all of its frames are free
abbrev pub is_run : List (FrameState ℕ) → ℕ → ℕ → Bool
is_run states order first = has_block states order first && all_from (free_at states) first (2 ^ order)

-- the first frame of the lowest free block of an order, if there is one
abbrev pub first_run : List (FrameState ℕ) → ℕ → Option ℕ
first_run states order = lowest (is_run states order) (length states)

-- the states after each of n frames, from `first` upwards, was given this state
unfoldable pub with_run : List (FrameState ℕ) → ℕ → ℕ → FrameState ℕ → List (FrameState ℕ)
with_run states first zero state = states
with_run states first (suc n) state = slice_set (with_run states first n state) (first + n) state
