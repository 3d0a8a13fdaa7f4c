use Rattle.std.proofs.Common.{◌-◌, ◌^◌, ◌≤◌}
use Rattle.fewest_core.specs.Reservation.{is_in_runs}
use Rattle.state_core.specs.ZoneState.{frame_count}
use Rattle.zone_core.proofs.Clearing.{IsPartCleared}
use Rattle.zone_core.proofs.bare.BareZone.clear.Given as goal

abbrev pub invariant-loop-number : goal.invariant-loop-number
invariant-loop-number g l = record {
  part : IsPartCleared (is_in_runs l.firsts (2 ^ l.order)) l.fn.self l.self l.from l.top;
  within : l.from ≤ frame_count l.fn.self;
}

abbrev pub decreases-loop-number : goal.decreases-loop-number
decreases-loop-number g l = frame_count l.fn.self - l.from
