use Rattle.std.proofs.Common.{◌∙◌, ◌+◌, ap, arith}
use Rattle.std.specs.Prelude.{nat_lt}
use Rattle.state_core.specs.ZoneState.{ZoneState}
use Rattle.zone_tables.proofs.zone.ZoneTables.has_room_for_two.Goals as goal
use Rattle.zone_tables.proofs.OutAndEnded.{out_fits, out_seen}

pub overflow_add-result : goal.overflow_add-result
overflow_add-result g c = omega (arith, out_fits c.self.view_is c.self.invariant c.out.ensures)

pub returns : goal.returns
returns g c =
    let out = out_seen c.self.view_is c.self.invariant c.out.ensures in
    let room = c.room.ensures ∙ ap (λ (v : ZoneState). v.room) c.self.view_is in
    λ i. nat_lt (out i + 1) (room i)
