use Rattle.std.proofs.Common.{◌-◌, ◌^◌, ◌≤◌}
use Rattle.fewest_core.specs.FewestMoves.{run_count}
use Rattle.zone_core.proofs.Picking.{IsNext}
use Rattle.zone_core.proofs.bare.BareZone.next_open.Given as goal

abbrev pub invariant-loop-number : goal.invariant-loop-number
invariant-loop-number g l = record {
  next : IsNext l.self (2 ^ l.order) l.last l.from l.next;
  within : l.from ≤ run_count l.self (2 ^ l.order);
}

abbrev pub decreases-loop-number : goal.decreases-loop-number
decreases-loop-number g l = run_count l.self (2 ^ l.order) - l.from
