use Rattle.std.proofs.Common.{◌≡◌, ◌-◌, ◌^◌, ◌≤◌}
use Rattle.fewest_core.specs.Claims.{pages_gone}
use Rattle.state_core.specs.Valid.{IsValidZone}
use Rattle.zone_core.specs.Stepping.{IsStepping}
use Rattle.zone_core.proofs.bare.BareZone.move_out.Given as goal

abbrev pub invariant-loop-moved : goal.invariant-loop-moved
invariant-loop-moved g l = record {
  gone : l.self-inside.tables.value ≡ pages_gone l.first (2 ^ l.order) l.fn.self l.moved;
  stepping : IsStepping l.first (2 ^ l.order) l.fn.self l.self-inside.tables.value l.moved;
  most : l.moved ≤ l.pages;
  valid : IsValidZone l.self-inside.tables.value;
}

abbrev pub decreases-loop-moved : goal.decreases-loop-moved
decreases-loop-moved g l = l.pages - l.moved
