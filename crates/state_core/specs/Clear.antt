-- What it means that a block which was handed out is really empty.
use Rattle.std.specs.Prelude.{◌≡◌, ◌≢◌, ℕ, ◌+◌, ◌^◌, ◌<◌, ◌≤◌, true, false, Some}
use Rattle.std.specs.FinMap as map
use Rattle.frame_core.specs.declared.place.Address.{Address}
use Rattle.state_core.specs.declared.placement.Placement.TheVariants.{At}
use Rattle.state_core.specs.ZoneState.{ZoneState, placement_at, takes_up, covers}

-- no address names a frame of the block, and no page is in one, or is moving from or to one
pub record IsClear (z : ZoneState) (first count : ℕ) : Type 0 where
  pub unnamed : (address : Address) (frame : ℕ) → first ≤ frame → frame < first + count → placement_at z address ≢ Some (At frame)
  pub unused : (page frame : ℕ) → first ≤ frame → frame < first + count → takes_up (map.get z.placement page) frame ≡ false

-- each block that is handed out is clear
abbrev pub BlocksAreClear : ZoneState → Type 0
BlocksAreClear z = (first order : ℕ) → map.get z.handed_out first ≡ Some order → IsClear z first (2 ^ order)

-- no two blocks that are handed out share a frame
abbrev pub BlocksAreApart : ZoneState → Type 0
BlocksAreApart z = (a b frame : ℕ) → covers (map.get z.handed_out a) a frame ≡ true → covers (map.get z.handed_out b) b frame ≡ true → a ≡ b
