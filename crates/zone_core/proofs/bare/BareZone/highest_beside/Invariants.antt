use Rattle.std.proofs.Common.{◌≡◌, ◌^◌, ◌≤◌}
use Rattle.fewest_core.specs.Evacuation.{is_beside}
use Rattle.fewest_core.specs.Reservation.{is_in_runs}
use Rattle.frame_core.specs.Below.{highest}
use Rattle.state_core.specs.ZoneState.{frame_count}
use Rattle.zone_core.proofs.bare.BareZone.highest_beside.Given as goal

abbrev pub invariant-loop-frame : goal.invariant-loop-frame
invariant-loop-frame g l = record {
  within : l.end ≤ frame_count l.self;
  same : highest (is_beside (is_in_runs l.firsts (2 ^ l.order)) l.self) l.end ≡ highest (is_beside (is_in_runs l.firsts (2 ^ l.order)) l.self) l.top;
}

abbrev pub decreases-loop-frame : goal.decreases-loop-frame
decreases-loop-frame g l = l.end
