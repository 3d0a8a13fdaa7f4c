use Rattle.std.proofs.Common.{◌<◌, ◌∙◌, length, ap, arith}
use Rattle.state_core.specs.ZoneState.{ZoneState}
use Rattle.std.specs.FinSet as set
use Rattle.zone_tables.proofs.Tables.{mark_seen}
use Rattle.zone_tables.proofs.zone.ZoneTables.is_marked.Goals as goal

pub returns : goal.returns
returns g c =
    let within : c.get.result < length c.self.inside.marks = omega (arith, c.get.ensures.value, c.requires, c.self.invariant.marks, ap (λ (z : ZoneState). z.blocks) c.self.view_is) in
    c.is_marked.ensures
    ∙ mark_seen c.self.inside c.args.self.now c.self.view_is c.get.result within
    ∙ ap (set.contains c.args.self.now.marked) c.get.ensures.value
