use Rattle.std.proofs.Common.{◌≡◌}
use Rattle.keeper_core.specs.Keeping.{claims_dropped}
use Rattle.zone_core.specs.ZoneIdentity.{HasIdentity}
use Rattle.keeper_core.proofs.keeper.Keeper.close.Given as goal

abbrev pub invariant-loop-place : goal.invariant-loop-place
invariant-loop-place g l = record {
  dropped : l.zone ≡ claims_dropped l.fn.self.order l.fn.self.claims l.fn.zone l.place;
  identity : HasIdentity l.fn.zone.number l.fn.zone.blocks l.zone;
}
