-- The frame that a page goes to while unmovable pages are kept in pageblocks of their own. `free` tells which frames are free, and
-- `unmovable` is how many unmovable pages each pageblock has.
use Rattle.std.specs.Prelude.{ℕ, ◌/◌, Bool, not, ◌&&◌, List, length, nat_lt, slice_index, Option, if◌then◌else◌}
use Rattle.std.specs.Option.{option_or}
use Rattle.frame_core.specs.Below.{lowest, some_below}
use Rattle.scan_core.specs.FrameCounts.{count_in_block}
use Rattle.scan_core.specs.Frames.{Frames, free_at}
use Rattle.scan_core.specs.FrameSet.{all_of_block}

-- the lowest free frame of the pageblocks that pass, of this many frames
abbrev pub lowest_where : (ℕ → Bool) → (ℕ → Bool) → ℕ → Option ℕ
lowest_where free passes frames = lowest (λ frame. free frame && passes (frame / 512)) frames

-- whether a pageblock has an unmovable page
abbrev pub has_unmovable : List ℕ → ℕ → Bool
has_unmovable unmovable block = nat_lt 0 (slice_index unmovable block)

-- whether none of this many pageblocks has more free frames than this one
abbrev pub is_emptiest : (ℕ → Bool) → ℕ → ℕ → Bool
is_emptiest free blocks block = not (some_below (λ other. nat_lt (count_in_block free block) (count_in_block free other)) blocks)

-- for an unmovable page: in a pageblock that has such a page, and else in the emptiest one
abbrev pub frame_with_unmovable : (ℕ → Bool) → List ℕ → ℕ → Option ℕ
frame_with_unmovable free unmovable frames = option_or (lowest_where free (has_unmovable unmovable) frames) (lowest_where free (is_emptiest free (frames / 512)) frames)

-- whether a pageblock isn't whole and has no unmovable page
abbrev pub is_begun : (ℕ → Bool) → List ℕ → ℕ → Bool
is_begun free unmovable block = not (all_of_block free block) && not (has_unmovable unmovable block)

-- for another page: in a pageblock without an unmovable page, one that isn't whole before one that is, and else the lowest
abbrev pub frame_without_unmovable : (ℕ → Bool) → List ℕ → ℕ → Option ℕ
frame_without_unmovable free unmovable frames =
    option_or (lowest_where free (is_begun free unmovable) frames) (option_or (lowest_where free (all_of_block free) frames) (lowest free frames))

-- the frame for a page that is unmovable or not, of the frames of a zone
abbrev pub frame_apart : Frames → Bool → Option ℕ
frame_apart frames unmovable =
    if unmovable then frame_with_unmovable (free_at frames.states) frames.unmovable (length frames.states)
    else frame_without_unmovable (free_at frames.states) frames.unmovable (length frames.states)
