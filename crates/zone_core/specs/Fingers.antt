-- Zones that are the same while a round is under way in them.
use Rattle.std.specs.Prelude.{◌≡◌}
use Rattle.state_core.specs.ZoneState.{ZoneState}
use Rattle.zone_core.specs.Outcome.{IsSame}

-- the zones are the same but for the order in which moves ended, and their fingers stand alike
pub record IsSameInRound (z w : ZoneState) : Type 0 where
  pub same : IsSame z w
  pub migrate : z.migrate ≡ w.migrate
  pub free : z.free ≡ w.free
