use Rattle.std.proofs.Common.{◌∙◌, ap}
use Rattle.std.specs.Prelude.{nat_lt}
use Rattle.state_core.specs.ZoneState.{ZoneState}
use Rattle.zone_tables.proofs.zone.ZoneTables.has_room.Goals as goal
use Rattle.zone_tables.proofs.OutAndEnded.{out_seen}

pub returns : goal.returns
returns g c =
    let out = out_seen c.self.view_is c.self.invariant c.out.ensures in
    let room = c.room.ensures ∙ ap (λ (v : ZoneState). v.room) c.self.view_is in
    λ i. nat_lt (out i) (room i)
