-- A set of a zone's frames: of each frame, whether it is in the set.
use Rattle.std.specs.Prelude.{◌≡◌, ◌⊎◌, ℕ, ◌+◌, ◌<◌, ◌≤◌, Bool, false, List, slice_get, unwrap_or}

-- whether a frame is in the set
abbrev pub has_frame : List Bool → ℕ → Bool
has_frame set frame = unwrap_or (slice_get set frame) false

-- each of so many frames, from a first one on, is in the set, or none of them is
abbrev pub HasEach : List Bool → ℕ → ℕ → Bool → Type 0
HasEach set first frames has = (frame : ℕ) → first ≤ frame → frame < first + frames → has_frame set frame ≡ has

-- that is so now, and each other frame is in the set if it was
pub record HasNow (old new : List Bool) (first frames : ℕ) (has : Bool) : Type 0 where
  pub each : HasEach new first frames has
  pub others : (frame : ℕ) → (frame < first) ⊎ (first + frames ≤ frame) → has_frame new frame ≡ has_frame old frame
