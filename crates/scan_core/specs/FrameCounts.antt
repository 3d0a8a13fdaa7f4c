-- Counts of frames, one for each pageblock.
use Rattle.std.specs.Prelude.{◌≡◌, ℕ, ◌+◌, ◌-◌, ◌*◌, ◌<◌, ◌≤◌, Bool, true, false, List, length, nat_eq, nat_lt, slice_get, slice_index, slice_set, Some, if◌then◌else◌}
use Rattle.frame_core.specs.Below.{count_from}
use Rattle.scan_core.specs.Frames.{true_at}

-- how many frames of a pageblock pass
abbrev pub count_in_block : (ℕ → Bool) → ℕ → ℕ
count_in_block p block = count_from p (512 * block) 512

-- each number is the count of the frames of its pageblock that pass
abbrev pub CountsEach : List ℕ → (ℕ → Bool) → Type 0
CountsEach counts p = (block : ℕ) → block < length counts → slice_get counts block ≡ Some (count_in_block p block)

-- whether all 512 frames of a pageblock are counted
abbrev pub is_all_counted : List ℕ → ℕ → Bool
is_all_counted counts block = nat_eq (slice_index counts block) 512

-- whether some frame of a pageblock is counted
abbrev pub is_some_counted : List ℕ → ℕ → Bool
is_some_counted counts block = nat_lt 0 (slice_index counts block)

-- how many frames of a pageblock are counted, or none where it is marked
abbrev pub unmarked_count : List Bool → List ℕ → ℕ → ℕ
unmarked_count marked counts block = if true_at marked block then 0 else slice_index counts block

-- the counts with this many more frames in a pageblock
abbrev pub with_more : List ℕ → ℕ → ℕ → List ℕ
with_more counts block frames = slice_set counts block (slice_index counts block + frames)

-- the counts with this many fewer frames in a pageblock
abbrev pub with_fewer : List ℕ → ℕ → ℕ → List ℕ
with_fewer counts block frames = slice_set counts block (slice_index counts block - frames)

-- the counts after one frame of a pageblock, that passed or not, passes now or not
abbrev pub recounted : Bool → Bool → List ℕ → ℕ → List ℕ
recounted false true counts block = with_more counts block 1
recounted true false counts block = with_fewer counts block 1
recounted _ _ counts block = counts

-- the lowest pageblock with the most counted frames
pub record IsFullest (counts : List ℕ) (blocks block : ℕ) : Type 0 where
  pub within : block < blocks
  pub most : (other : ℕ) → other < blocks → slice_index counts other ≤ slice_index counts block
  pub lowest : (other : ℕ) → other < block → slice_index counts other < slice_index counts block
