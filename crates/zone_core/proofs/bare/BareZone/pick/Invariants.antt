use Rattle.std.proofs.Common.{◌≡◌, ◌^◌, length}
use Rattle.std.specs.Prelude.{IfSome}
use Rattle.zone_core.specs.Reserving.{next_rank, IsOpenRun}
use Rattle.zone_core.proofs.Picking.{IsPickedUpto}
use Rattle.zone_core.proofs.bare.BareZone.pick.Given as goal

abbrev pub invariant-loop-place : goal.invariant-loop-place
invariant-loop-place g l = record {
  last_open : IfSome l.last (λ run. IsOpenRun l.self (2 ^ l.order) run);
  ranked : next_rank l.self (2 ^ l.order) l.last ≡ l.place;
  picked : IsPickedUpto l.self l.order l.firsts l.place;
  count : length l.firsts ≡ length l.fn.firsts;
}
