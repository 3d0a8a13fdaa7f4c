-- What the lock of a zone keeps.
use Rattle.std.specs.Prelude.{◌≡◌, ℕ, true, false}
use Rattle.std.specs.FinMap as map
use Rattle.frame_core.specs.Truth.{IsTruthful}
use Rattle.state_core.specs.Valid.{IsValidZone}
use Rattle.state_core.specs.ZoneState.{ZoneState, takes_up, is_held}

-- the zone at each moment that its lock is taken, also while pages are in queues and in hands
pub record LockInvariant (z : ZoneState) : Type 0 where
  -- each load in the journal gave the value that was stored last before it in that word of that page
  pub loads : IsTruthful z.records
  -- each frame that is in a block that is handed out, or claimed, is clear: no page takes it up
  pub clear : (page frame : ℕ) → is_held z frame ≡ true → takes_up (map.get z.placement page) frame ≡ false
  -- the zone is valid, as every zone is
  pub valid : IsValidZone z
