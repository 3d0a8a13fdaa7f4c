-- The free frames of a list, and of each pageblock.
use Rattle.std.proofs.Common.{◌≡◌, ℕ, ◌+◌, ◌*◌, ◌<◌, ◌≤◌, false, List, length, ap, ◌∙◌, arith}
use Rattle.std.specs.Prelude.{nat_eq}
use Rattle.std.proofs.lemmas.Bool.{ne_eqb}
use Rattle.std.proofs.lemmas.Option.{slice_get_past, get_or_from_slice_get}
use Rattle.frame_core.specs.Below.{lowest, count_below}
use Rattle.frame_core.specs.declared.state.FrameState.{FrameState}
use Rattle.frame_core.proofs.Bounds.{count_past, lowest_past, count_from_short}
use Rattle.frame_core.proofs.Searches.{count_same, lowest_same}
use Rattle.scan_core.specs.BlockCounts.{CountsFree}
use Rattle.scan_core.specs.FrameCounts.{is_all_counted}
use Rattle.scan_core.specs.Frames.{is_free_state, free_at, free_in_block, is_whole, blocks_of}

pub not_free_past : (states : List (FrameState ℕ)) (frame : ℕ) → length states ≤ frame → free_at states frame ≡ false
not_free_past states frame past = ap is_free_state (slice_get_past states frame past)

full_as_whole : (counts : List ℕ) (states : List (FrameState ℕ)) → CountsFree counts states → (block : ℕ) → block < 8 → is_all_counted counts block ≡ is_whole states block
full_as_whole counts states right block h = ap (λ n. nat_eq n 512) (get_or_from_slice_get counts block _ 0 (right.each block h))

-- a pageblock that the frames don't fill doesn't count as whole
not_whole_past : (states : List (FrameState ℕ)) (block : ℕ) → blocks_of states ≤ block → is_whole states block ≡ false
not_whole_past states block past =
    let short = count_from_short (free_at states) (512 * block) 512 (512 * block + 511) (omega arith) (omega arith) (not_free_past states (512 * block + 511) (omega arith)) in
    ne_eqb (free_in_block states block) 512 (λ all. absurd (omega (arith, short, all)))

-- the number of whole pageblocks, and the lowest one, read off their counts
module _ (counts : List ℕ) (states : List (FrameState ℕ)) (right : CountsFree counts states) (few : length states ≤ 4096) where
  pub whole_counted : count_below (is_all_counted counts) 8 ≡ count_below (is_whole states) (blocks_of states)
  whole_counted =
      count_same (is_all_counted counts) (is_whole states) 8 (λ block h. full_as_whole counts states right block h)
      ∙ count_past (is_whole states) (blocks_of states) 8 (omega arith) (λ block low h. not_whole_past states block low)

  pub first_counted : lowest (is_all_counted counts) 8 ≡ lowest (is_whole states) (blocks_of states)
  first_counted =
      lowest_same (is_all_counted counts) (is_whole states) 8 (λ block h. full_as_whole counts states right block h)
      ∙ lowest_past (is_whole states) (blocks_of states) 8 (omega arith) (λ block low h. not_whole_past states block low)
