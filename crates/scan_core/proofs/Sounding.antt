-- What is read off the fields of the frames.
use Rattle.std.proofs.Common.{◌≡◌, ℕ, ◌+◌, ◌-◌, ◌*◌, ◌/◌, ◌^◌, ◌<◌, Bool, true, not, List, length, inl, inr, sym, ap, ◌∙◌, slice_index, arith}
use Rattle.std.specs.Prelude.{Option, Some, None, IfSome, nat_le, nat_lt, ◌&&◌}
use Rattle.std.specs.FinSet as set
use Rattle.std.specs.Ordering.{nat_cmp}
use Rattle.std.proofs.lemmas.Bool.{le-leb}
use Rattle.std.proofs.lemmas.Bool.Decides.{leb_tells, nat_tests}
use Rattle.std.proofs.lemmas.Nat.{pow_pos}
use Rattle.frame_core.specs.Below.{count_below, count_from, highest, lowest, some_below}
use Rattle.frame_core.specs.Order.{is_aligned}
use Rattle.frame_core.specs.declared.state.FrameState.{FrameState}
use Rattle.frame_core.proofs.Searches.{count_same, lowest_same}
use Rattle.scan_core.specs.Apart.{frame_with_unmovable, frame_without_unmovable}
use Rattle.scan_core.specs.FrameSet.{all_of_block, is_run_of}
use Rattle.scan_core.specs.Frames.{Frames, blocks_of, free_at, free_frames, is_whole, source_at, stuck_at, true_at}
use Rattle.scan_core.specs.NumberSet.{all_from}
use Rattle.scan_core.specs.Pairs.{is_marked, is_stuck, is_target, next_source, next_target}
use Rattle.scan_core.specs.Runs.{first_run, is_run}
use Rattle.scan_core.specs.Seen.{seen}
use Rattle.scan_core.specs.Sound.{frames_of, IsSound}
use Rattle.scan_core.specs.declared.fingers.Fingers.{Fingers}
use Rattle.scan_core.specs.declared.frames.Frames.TheInside.{Inside}
use Rattle.scan_core.proofs.Counting.{not_free_past}
use Rattle.scan_core.proofs.FrameSets.{all_pass, unmarked_by_counts}
use Rattle.scan_core.proofs.Masking.{clash}
use Rattle.scan_core.proofs.Seeing.{length_seen}
use Rattle.scan_core.proofs.Spanning.{is_in_run}

from_next : (source frame : ℕ) → nat_le (source + 1) frame ≡ nat_lt source frame
from_next source frame = grind (arith, nat_tests)

from_first : (frame : ℕ) → nat_le 0 frame ≡ true
from_first frame = le-leb 0 frame (omega arith)

and_within : (a b c : Bool) → (c ≡ true → b ≡ true) → (a && c) ≡ ((a && b) && c)
and_within a b c gives = grind (arith, gives)

-- a free frame stands within the list
pub free_within : (states : List (FrameState ℕ)) (frame : ℕ) → free_at states frame ≡ true → frame < length states
free_within states frame free = elim (leb_tells (length states) frame) [
  | inl past ↦ absurd (clash (free_at states frame) free (not_free_past states frame past.1))
  | inr under ↦ under.1
]

module _ (states : List (FrameState ℕ)) (order : ℕ) where
  run_ends_within : (first : ℕ) → all_from (free_at states) first (2 ^ order) ≡ true → nat_le (first + 2 ^ order) (length states) ≡ true
  run_ends_within first all =
      let some : 0 < 2 ^ order = pow_pos order in
      let last = free_within states (first + 2 ^ order - 1) (all_pass (free_at states) first (2 ^ order) all (first + 2 ^ order - 1) (is_in_run first (2 ^ order) (first + 2 ^ order - 1) (omega arith) (omega arith))) in
      le-leb (first + 2 ^ order) (length states) (omega arith)

  pub run_of_is_run : (first : ℕ) → is_run_of (free_at states) order first ≡ is_run states order first
  run_of_is_run first = and_within (is_aligned order first) (nat_le (first + 2 ^ order) (length states)) (all_from (free_at states) first (2 ^ order)) (run_ends_within first)

  pub first_run_is : lowest (is_run_of (free_at states) order) (length states) ≡ first_run states order
  first_run_is = lowest_same (is_run_of (free_at states) order) (is_run states order) (length states) (λ k h. run_of_is_run k)

pub if_some_within : (states : List (FrameState ℕ)) (o : Option ℕ) → IfSome o (λ frame. free_at states frame ≡ true) → IfSome o (λ frame. frame < length states)
if_some_within states None free = free
if_some_within states (Some frame) free = free_within states frame free

module _ (z : Inside) (sound : IsSound z) where
  pub kept_length : length (seen z.held.members z.kept.items) ≡ length z.kept.items
  kept_length = length_seen (set.contains z.held.members) 0 z.kept.items

  -- there are as many frames as contracts see
  pub frames_kept : {now : Frames} → frames_of z ≡ now → length now.states ≡ length z.kept.items
  frames_kept view = sym (ap (λ (frames : Frames). length frames.states) view) ∙ kept_length

  -- the set of the free frames has room for just the frames
  pub bound_is : z.free.bound ≡ length (seen z.held.members z.kept.items)
  bound_is = sound.free_room ∙ sym kept_length

  pub free_is : set.contains z.free.members ≡ free_at (seen z.held.members z.kept.items)
  free_is = λ i n. sound.free n i

  pub free_counted : count_below (set.contains z.free.members) z.free.bound ≡ free_frames (seen z.held.members z.kept.items)
  free_counted = λ i. count_below (free_is i) (bound_is i)

  pub vacant_by_set : (marked : List Bool) → count_below (λ frame. not (is_marked marked frame) && set.contains z.free.members frame) z.free.bound ≡ count_below (is_target (seen z.held.members z.kept.items) marked) (length (seen z.held.members z.kept.items))
  vacant_by_set marked = λ i. count_below (λ frame. not (is_marked marked frame) && free_is i frame) (bound_is i)

  pub lowest_counted : lowest (set.contains z.free.members) z.free.bound ≡ lowest (free_at (seen z.held.members z.kept.items)) (length (seen z.held.members z.kept.items))
  lowest_counted = λ i. lowest (free_is i) (bound_is i)

  pub with_unmovable_found : frame_with_unmovable (set.contains z.free.members) z.free.unmovable z.free.bound ≡ frame_with_unmovable (free_at (seen z.held.members z.kept.items)) z.free.unmovable (length (seen z.held.members z.kept.items))
  with_unmovable_found = λ i. frame_with_unmovable (free_is i) z.free.unmovable (bound_is i)

  pub without_unmovable_found : frame_without_unmovable (set.contains z.free.members) z.free.unmovable z.free.bound ≡ frame_without_unmovable (free_at (seen z.held.members z.kept.items)) z.free.unmovable (length (seen z.held.members z.kept.items))
  without_unmovable_found = λ i. frame_without_unmovable (free_is i) z.free.unmovable (bound_is i)

  pub whole_by_set : count_below (all_of_block (set.contains z.free.members)) (z.free.bound / 512) ≡ count_below (is_whole (seen z.held.members z.kept.items)) (blocks_of (seen z.held.members z.kept.items))
  whole_by_set = λ i. count_below (all_of_block (free_is i)) (bound_is i / 512)

  pub first_run_by_set : (order : ℕ) → lowest (is_run_of (set.contains z.free.members) order) z.free.bound ≡ first_run (seen z.held.members z.kept.items) order
  first_run_by_set order = (λ i. lowest (is_run_of (free_is i) order) (bound_is i)) ∙ first_run_is (seen z.held.members z.kept.items) order

  pub runs_by_set : (order : ℕ) → count_below (is_run_of (set.contains z.free.members) order) z.free.bound ≡ count_below (is_run (seen z.held.members z.kept.items) order) (length (seen z.held.members z.kept.items))
  runs_by_set order =
      (λ i. count_below (is_run_of (free_is i) order) (bound_is i))
      ∙ count_same (is_run_of (free_at (seen z.held.members z.kept.items)) order) (is_run (seen z.held.members z.kept.items) order) (length (seen z.held.members z.kept.items)) (λ k h. run_of_is_run (seen z.held.members z.kept.items) order k)

  -- there are as many counts of stuck frames as there are pageblocks
  pub stuck_frames : 512 * length z.candidates.stuck ≡ length (seen z.held.members z.kept.items)
  stuck_frames = omega (arith, sound.stuck_blocks, sound.whole, kept_length)

  pub stuck_by_counts : (marked : List Bool) → some_below (λ block. not (true_at marked block) && nat_lt 0 (slice_index z.candidates.stuck block)) (length z.candidates.stuck) ≡ some_below (is_stuck (seen z.held.members z.kept.items) z.movable.items marked) (length (seen z.held.members z.kept.items))
  stuck_by_counts marked =
      unmarked_by_counts (stuck_at (seen z.held.members z.kept.items) z.movable.items) marked z.candidates.stuck sound.stuck
      ∙ ap (some_below (is_stuck (seen z.held.members z.kept.items) z.movable.items marked)) stuck_frames

  -- the search in the set of the sources finds what a search in the states does
  pub source_found_in : (marked : List Bool) (fingers : Fingers) → lowest (λ frame. nat_le fingers.migrate frame && (not (is_marked marked frame) && set.contains z.candidates.sources.members frame)) fingers.free ≡ next_source (seen z.held.members z.kept.items) z.movable.items marked fingers
  source_found_in marked fingers = λ i. lowest (λ frame. nat_le fingers.migrate frame && (not (is_marked marked frame) && sound.sources frame i)) fingers.free

  module _ (members : set.FinSet nat_cmp) (are : members ≡ z.free.members) (marked : List Bool) where
    pub target_found_in : (fingers : Fingers) (source low : ℕ) → low ≡ source → highest (λ frame. nat_le (low + 1) frame && (not (is_marked marked frame) && set.contains members frame)) fingers.free ≡ next_target (seen z.held.members z.kept.items) marked fingers source
    target_found_in fingers source low at =
        (λ i. highest (λ frame. nat_le (at i + 1) frame && (not (is_marked marked frame) && set.contains (are i) frame)) fingers.free)
        ∙ (λ i. highest (λ frame. from_next source frame i && (not (is_marked marked frame) && sound.free frame i)) fingers.free)

    pub vacant_found_in : (end : ℕ) → highest (λ frame. nat_le 0 frame && (not (is_marked marked frame) && set.contains members frame)) end ≡ highest (is_target (seen z.held.members z.kept.items) marked) end
    vacant_found_in end =
        (λ i. highest (λ frame. from_first frame i && (not (is_marked marked frame) && set.contains (are i) frame)) end)
        ∙ (λ i. highest (λ frame. not (is_marked marked frame) && sound.free frame i) end)

  pub movable_found_in : (from end : ℕ) → lowest (λ frame. nat_le from frame && set.contains z.candidates.sources.members frame) end ≡ lowest (λ frame. nat_le from frame && source_at (seen z.held.members z.kept.items) z.movable.items frame) end
  movable_found_in from end = λ i. lowest (λ frame. nat_le from frame && sound.sources frame i) end

  pub free_counted_in : (first count : ℕ) → count_from (set.contains z.free.members) first count ≡ count_from (free_at (seen z.held.members z.kept.items)) first count
  free_counted_in first count = λ i. count_from (free_is i) first count

  pub movable_counted : (first count : ℕ) → count_from (set.contains z.candidates.sources.members) first count ≡ count_from (source_at (seen z.held.members z.kept.items) z.movable.items) first count
  movable_counted first count = λ i. count_from (λ n. sound.sources n i) first count
