use Rattle.std.proofs.Common.{◌<◌, ◌≤◌, ◌-◌, All}
use Rattle.arrayvec.specs.ArrayVec.{array_vec_len}
use Rattle.zone_core.specs.Alone.{IsAtRest}
use Rattle.state_core.specs.Valid.{IsValidZone}
use Rattle.zone_core.specs.ZoneIdentity.{HasIdentity}
use Rattle.huge_core.specs.ByHand.{HasFilled}
use Rattle.huge_core.specs.Reserving.{IsGot}
use Rattle.huge_core.proofs.alone.fill_alone.Given as goal

abbrev pub invariant-loop-order : goal.invariant-loop-order
invariant-loop-order g l = record {
  most : array_vec_len l.got ≤ l.n;
  got : All (IsGot l.order) l.got.items;
  filled : HasFilled l.order l.n l.fn.zone l.zone l.fn.got.items l.got.items;
  rest : IsAtRest l.fn.zone → IsAtRest l.zone;
  valid : array_vec_len l.fn.got < array_vec_len l.got → IsValidZone l.zone;
  identity : HasIdentity l.fn.zone.number l.fn.zone.blocks l.zone;
}

abbrev pub decreases-loop-order : goal.decreases-loop-order
decreases-loop-order g l = l.n - array_vec_len l.got
