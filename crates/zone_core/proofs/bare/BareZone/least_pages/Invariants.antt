use Rattle.std.proofs.Common.{◌≡◌, ◌*◌, ◌^◌, ◌≤◌}
use Rattle.std.specs.Prelude.{IfSome}
use Rattle.fewest_core.specs.FewestMoves.{least}
use Rattle.zone_core.specs.Reserving.{next_rank, IsOpenRun}
use Rattle.zone_core.proofs.bare.BareZone.least_pages.Given as goal

abbrev pub invariant-loop : goal.invariant-loop
invariant-loop g l = record {
  last_open : IfSome l.last (λ run. IsOpenRun l.self (2 ^ l.order) run);
  ranked : next_rank l.self (2 ^ l.order) l.last ≡ l.counter;
  so_far : l.pages ≡ least l.counter l.self (2 ^ l.order);
  few : l.pages ≤ 2 ^ l.order * l.counter;
}
