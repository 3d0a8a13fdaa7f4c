-- Worlds that no reply tells apart.
use Rattle.std.specs.Prelude.{◌≡◌, true}
use Rattle.machine_core.specs.World.{WorldState}
use Rattle.zone_core.specs.Outcome.{IsSame}
use Rattle.zone_core.specs.Fingers.{IsSameInRound}

-- the worlds are the same but for the order in which moves ended, and for the seats, of which no reply tells
pub record IsSameWorld (v w : WorldState) : Type 0 where
  pub zone : IsSame v.zone w.zone
  pub is_open : v.is_open ≡ w.is_open
  -- while a hand round is open the fingers stand alike
  pub in_round : v.is_open ≡ true → IsSameInRound v.zone w.zone
  pub waiting : v.waiting ≡ w.waiting
  pub hands : v.hands ≡ w.hands
