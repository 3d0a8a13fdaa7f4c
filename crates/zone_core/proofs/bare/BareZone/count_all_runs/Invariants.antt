use Rattle.std.proofs.Common.{◌≡◌, ◌+◌}
use Rattle.frame_core.specs.Below.{count_below, sum_below}
use Rattle.state_core.specs.HandingOut.{is_run}
use Rattle.state_core.specs.ZoneState.{frame_count}
use Rattle.zone_core.specs.FreeRuns.{maximal_runs}
use Rattle.zone_core.proofs.bare.BareZone.count_all_runs.Given as goal

abbrev pub invariant-loop-order : goal.invariant-loop-order
invariant-loop-order g l = record {
  so_far : l.runs ≡ sum_below (maximal_runs l.self) l.order + count_below (is_run l.self l.order) (frame_count l.self);
}
