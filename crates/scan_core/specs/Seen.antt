-- The states of frames: as they are kept, where the frames of blocks that are handed out are Free, and as they are seen, where these are
-- Huge.
use Rattle.std.specs.Prelude.{ℕ, suc, Bool, List, [], ◌∷◌, if◌then◌else◌}
use Rattle.std.specs.Ordering.{nat_cmp}
use Rattle.std.specs.FinSet as set
use Rattle.frame_core.specs.declared.state.FrameState.{FrameState}
use Rattle.frame_core.specs.declared.state.FrameState.TheVariants.{Huge}

-- the states as they are seen, of a list whose first frame has this number: Huge where the frame is held, and else as they are kept
abbrev pub seen_from : (ℕ → Bool) → ℕ → List (FrameState ℕ) → List (FrameState ℕ)
seen_from held number [] = []
seen_from held number (state ∷ rest) = (if held number then Huge else state) ∷ seen_from held (suc number) rest

-- the states of all frames as they are seen, given the set of those that are held
abbrev pub seen : set.FinSet nat_cmp → List (FrameState ℕ) → List (FrameState ℕ)
seen held kept = seen_from (set.contains held) 0 kept
