-- The pages that are moving.
use Rattle.std.specs.Prelude.{◌≡◌, ◌≢◌, ◌<◌, ◌≤◌, ℕ, Option, Some}
use Rattle.std.specs.FinMap as map
use Rattle.frame_core.specs.declared.place.Address.{Address}
use Rattle.frame_core.specs.History.{page_at}
use Rattle.state_core.specs.Carrying.{flags_of}
use Rattle.state_core.specs.ZoneState.{ZoneState}
use Rattle.state_core.specs.declared.placement.Placement.{Placement}
use Rattle.state_core.specs.declared.placement.Placement.TheVariants.{Moving}
use Rattle.table_core.specs.Names.{order_of}
use Rattle.zone_tables.specs.declared.moving.MovingPage.{MovingPage}

-- an address names a page, and no lower one does
pub record IsLowestName (z : ZoneState) (page : ℕ) (address : Address) : Type 0 where
  pub named : page_at z.records address ≡ Some page
  pub lowest : (other : Address) → page_at z.records other ≡ Some page → order_of address ≤ order_of other

-- a page with this placement is moving out of a frame
abbrev pub Leaves : Option Placement → ℕ → Type 0
Leaves placement frame = (serial target : ℕ) × (placement ≡ Some (Moving serial frame target))

-- a page is moving out of this frame, and this is what is known of it
pub record IsMovingFrom (z : ZoneState) (source : ℕ) (moving : MovingPage) : Type 0 where
  pub left : moving.source ≡ source
  pub placed : map.get z.placement moving.page ≡ Some (Moving moving.serial moving.source moving.target)
  pub flags : moving.flags ≡ flags_of z moving.page
  pub address : IsLowestName z moving.page moving.address

-- no page is moving out of this frame
abbrev pub IsLeftByNone : ZoneState → ℕ → Type 0
IsLeftByNone z frame = (page serial target : ℕ) → map.get z.placement page ≢ Some (Moving serial frame target)

-- this page is moving out of a frame from `from` on, and none is moving out of a lower one of these
pub record IsNextMoving (z : ZoneState) (from : ℕ) (moving : MovingPage) : Type 0 where
  pub least : from ≤ moving.source
  pub leaves : IsMovingFrom z moving.source moving
  pub before : (frame : ℕ) → from ≤ frame → frame < moving.source → IsLeftByNone z frame

-- no page is moving out of a frame from `from` on
abbrev pub IsNoneMoving : ZoneState → ℕ → Type 0
IsNoneMoving z from = (frame : ℕ) → from ≤ frame → IsLeftByNone z frame
