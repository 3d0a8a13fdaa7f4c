-- Rounds that are done.
use Rattle.std.specs.Prelude.{◌≡◌, true, length}
use Rattle.frame_core.specs.Moves.{out}
use Rattle.state_core.specs.Packed.{IsPacked}
use Rattle.state_core.specs.Pairs.{HaveMet}
use Rattle.state_core.specs.ZoneState.{ZoneState, is_quiet}

-- the scanners of a round have met, and where nothing was stuck the zone is packed
pub record IsCompacted (z : ZoneState) : Type 0 where
  pub met : HaveMet z
  pub packed : is_quiet z ≡ true → length (out z.records) ≡ 0 → IsPacked z
