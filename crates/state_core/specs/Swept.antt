-- How far the two scanners of a quiet round have come.
use Rattle.std.specs.Prelude.{◌≡◌, ℕ, ◌<◌, ◌≤◌, true, false, Some}
use Rattle.std.specs.FinMap as map
use Rattle.state_core.specs.declared.placement.Placement.TheVariants.{At, Moving}
use Rattle.state_core.specs.Pairs.{is_marked, can_move}
use Rattle.state_core.specs.ZoneState.{ZoneState, frame_count, is_free, is_held, is_quiet}

-- a moving page may be taken, and goes from a frame below the migrate finger to one from the free finger on
pub record IsCarriedUp (z : ZoneState) (page source target : ℕ) : Type 0 where
  pub low : source < z.migrate
  pub high : z.free ≤ target
  pub movable : can_move z page ≡ true

-- what a quiet round keeps, of frames in unmarked pageblocks: below the migrate finger none holds a page, from the free
-- finger on none is free, and none is held or holds a page that may not be taken
pub record IsSwept (z : ZoneState) : Type 0 where
  pub below : (page frame : ℕ) → map.get z.placement page ≡ Some (At frame) → is_marked z frame ≡ false → z.migrate ≤ frame
  pub above : (frame : ℕ) → z.free ≤ frame → frame < frame_count z → is_marked z frame ≡ false → is_free z frame ≡ false
  -- no frame is held, and each page may be taken from its frame
  pub unheld : (frame : ℕ) → frame < frame_count z → is_marked z frame ≡ false → is_held z frame ≡ false
  pub movable : (page frame : ℕ) → map.get z.placement page ≡ Some (At frame) → is_marked z frame ≡ false → can_move z page ≡ true
  -- each moving page goes from below the migrate finger to a frame from the free finger on
  pub ways : (page serial source target : ℕ) → map.get z.placement page ≡ Some (Moving serial source target) → IsCarriedUp z page source target

-- a zone is swept while its latest round is quiet
abbrev pub SweptIfQuiet : ZoneState → Type 0
SweptIfQuiet z = is_quiet z ≡ true → IsSwept z
