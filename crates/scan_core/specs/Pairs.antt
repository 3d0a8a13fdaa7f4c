-- The pair of frames that a round takes next, between its fingers:
-- the lowest frame with a page that may be taken, and the highest free frame above it.
-- It is defined as a relation, `IsPair`, and after that as the scanners search for it, `next_step`. `next_pair` has a clause for
-- each, so its proof shows that they agree.
use Rattle.std.specs.Prelude.{◌≡◌, ℕ, ◌+◌, ◌/◌, ◌<◌, ◌≤◌, Bool, true, false, not, ◌&&◌, ◌||◌, List, nat_lt, nat_le, Option, Some, None}
use Rattle.frame_core.specs.Below.{lowest, highest}
use Rattle.frame_core.specs.declared.state.FrameState.{FrameState}
use Rattle.scan_core.specs.Frames.{free_at, holds_at, huge_at, true_at}
use Rattle.scan_core.specs.declared.fingers.Fingers.{Fingers}
use Rattle.scan_core.specs.declared.fingers.Step.{Step}
use Rattle.scan_core.specs.declared.fingers.Step.TheVariants.{Pair, Met}

-- whether a frame stands in a marked pageblock
abbrev pub is_marked : List Bool → ℕ → Bool
is_marked marked frame = true_at marked (frame / 512)

-- a frame between the fingers, in an unmarked pageblock, with a page that may be taken
pub record IsSource (states : List (FrameState ℕ)) (movable marked : List Bool) (fingers : Fingers) (frame : ℕ) : Type 0 where
  pub holds : holds_at states frame ≡ true
  pub can_move : true_at movable frame ≡ true
  pub unmarked : is_marked marked frame ≡ false
  pub low : fingers.migrate ≤ frame
  pub high : frame < fingers.free

-- a free frame above the source and below the free finger, in an unmarked pageblock
pub record IsTarget (states : List (FrameState ℕ)) (marked : List Bool) (fingers : Fingers) (source frame : ℕ) : Type 0 where
  pub free : free_at states frame ≡ true
  pub unmarked : is_marked marked frame ≡ false
  pub low : source < frame
  pub high : frame < fingers.free

-- the lowest source, with its highest target
pub record IsPair (states : List (FrameState ℕ)) (movable marked : List Bool) (fingers : Fingers) (source target : ℕ) : Type 0 where
  pub from : IsSource states movable marked fingers source
  pub lowest : (frame : ℕ) → IsSource states movable marked fingers frame → source ≤ frame
  pub to : IsTarget states marked fingers source target
  pub highest : (frame : ℕ) → IsTarget states marked fingers source frame → frame ≤ target

-- the scanners find the pair, and meet exactly where there is none
abbrev pub Finds : List (FrameState ℕ) → List Bool → List Bool → Fingers → Step → Type 0
Finds states movable marked fingers (Pair source target) = IsPair states movable marked fingers source target
Finds states movable marked fingers Met = (source target : ℕ) → IsPair states movable marked fingers source target → ⊥

-- after a pair the fingers stand one above the source and at the target; after Met they stand where they stood
abbrev pub after_step : Fingers → Step → Fingers
after_step fingers (Pair source target) = record { migrate = source + 1; free = target }
after_step fingers Met = fingers

-- whether a page may be taken from a frame
abbrev pub is_source : List (FrameState ℕ) → List Bool → List Bool → ℕ → Bool
is_source states movable marked frame = not (is_marked marked frame) && (holds_at states frame && true_at movable frame)

-- whether a page may be taken to a frame
abbrev pub is_target : List (FrameState ℕ) → List Bool → ℕ → Bool
is_target states marked frame = not (is_marked marked frame) && free_at states frame

-- the lowest source, as the migrate scanner finds it
abbrev pub next_source : List (FrameState ℕ) → List Bool → List Bool → Fingers → Option ℕ
next_source states movable marked fingers = lowest (λ frame. nat_le fingers.migrate frame && is_source states movable marked frame) fingers.free

-- the highest target of a source, as the free scanner finds it
abbrev pub next_target : List (FrameState ℕ) → List Bool → Fingers → ℕ → Option ℕ
next_target states marked fingers source = highest (λ frame. nat_lt source frame && is_target states marked frame) fingers.free

-- the answer for a source: the pair where it has a target, and Met where not
abbrev pub step_to : ℕ → Option ℕ → Step
step_to source None = Met
step_to source (Some target) = Pair source target

-- the answer where a source was found, and Met where none was
abbrev pub step_from : List (FrameState ℕ) → List Bool → Fingers → Option ℕ → Step
step_from states marked fingers None = Met
step_from states marked fingers (Some source) = step_to source (next_target states marked fingers source)

-- the scanners' answer, as they find it
abbrev pub next_step : List (FrameState ℕ) → List Bool → List Bool → Fingers → Step
next_step states movable marked fingers = step_from states marked fingers (next_source states movable marked fingers)

-- whether a frame of an unmarked pageblock is handed out, or holds a page that may not be taken from it
abbrev pub is_stuck : List (FrameState ℕ) → List Bool → List Bool → ℕ → Bool
is_stuck states movable marked frame = not (is_marked marked frame) && (huge_at states frame || (holds_at states frame && not (true_at movable frame)))
