-- How the scanner of a round stops, and goes on, where nobody else has the zone.
use Rattle.std.specs.Prelude.{◌≡◌, ℕ, ◌<◌}
use Rattle.frame_core.specs.Moves.{isolated, put_back}
use Rattle.state_core.specs.Pairs.{is_calm}
use Rattle.state_core.specs.ZoneState.{ZoneState, is_quiet}
use Rattle.zone_core.specs.Alone.{IsAtRest}
use Rattle.zone_core.specs.ByHand.{all_isolated}
use Rattle.round_core.specs.Rounds.{stop_by_hand}
use Rattle.round_core.specs.declared.round.Stop.{Stop}

-- it stops where so many pages are isolated as by hand, and why it stops by hand
pub record IsStopByHand (start : ZoneState) (count : ℕ) (stop : Stop) : Type 0 where
  pub count_is : count ≡ isolated (all_isolated start).records
  pub stop_is : stop ≡ stop_by_hand start

-- if no page was moving before the round
abbrev pub StopsAlone : ZoneState → ℕ → Stop → Type 0
StopsAlone start count stop = IsAtRest start → IsStopByHand start count stop

-- once the round isolated a page, it is quiet exactly where it began calm, unless a page was put back
abbrev pub IsAsQuiet : ZoneState → ZoneState → Type 0
IsAsQuiet start z = isolated start.records < isolated z.records → put_back z.records ≡ put_back start.records → is_quiet z ≡ is_calm start

-- if no page was moving before the round
abbrev pub QuietAlone : ZoneState → ZoneState → Type 0
QuietAlone start z = IsAtRest start → IsAsQuiet start z
