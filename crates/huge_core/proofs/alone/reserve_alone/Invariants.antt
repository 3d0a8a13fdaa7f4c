use Rattle.std.proofs.Common.{◌<◌, ◌-◌, All}
use Rattle.arrayvec.specs.ArrayVec.{array_vec_len}
use Rattle.zone_core.specs.Alone.{IsAtRest}
use Rattle.zone_core.specs.ZoneIdentity.{HasIdentity}
use Rattle.huge_core.specs.Reserving.{IsGot}
use Rattle.huge_core.proofs.ByHand.{IsUnderWayByHand}
use Rattle.huge_core.proofs.Running.{IsRunning}
use Rattle.huge_core.proofs.alone.reserve_alone.Given as goal

abbrev pub invariant-loop-error : goal.invariant-loop-error
invariant-loop-error g l = record {
  fewer : array_vec_len l.got < l.n;
  got : All (IsGot l.collector.order) l.got.items;
  running : IsRunning l.collector l.fn.seats.scan l.seats.scan l.fn.seats.ends l.seats.ends l.rounds;
  hand : IsAtRest l.fn.zone → IsUnderWayByHand l.collector.order l.n l.fn.zone l.got.items l.rounds l.zone;
  identity : HasIdentity l.fn.zone.number l.fn.zone.blocks l.zone;
}

abbrev pub decreases-loop-error : goal.decreases-loop-error
decreases-loop-error g l = l.collector.rounds - l.rounds
