-- A block that was taken from a pool, as whoever doesn't hold its lock knows it.
use Rattle.std.specs.Prelude.{◌≡◌, ℕ}
use Rattle.keeper_core.specs.Keeping.{take_refusal, IsTaken}
use Rattle.keeper_core.specs.declared.keeper.Taken.{Taken}
use Rattle.keeper_thread.specs.Working.{Room}
use Rattle.state_core.specs.Valid.{IsValidZone}
use Rattle.state_core.specs.declared.error.ZoneError.{ZoneError}
use Rattle.std.specs.Prelude.{Some}

-- some room whose keeper has blocks of this order became another one when the block was taken, whose zone is valid
pub record WasTaken (order : ℕ) (taken : Taken) : Type 0 where
  pub before : Room
  pub after : Room
  pub kept : before.keeper.order ≡ order
  pub taken_from : IsTaken before.keeper before.zone taken after.keeper after.zone
  pub valid : IsValidZone after.zone

-- some room has a keeper with blocks of this order, and none could be taken there
pub record WasRefused (order : ℕ) (error : ZoneError) : Type 0 where
  pub room : Room
  pub kept : room.keeper.order ≡ order
  pub refused : take_refusal room.keeper room.zone ≡ Some error
