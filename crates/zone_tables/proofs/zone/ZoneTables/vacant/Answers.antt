use Rattle.std.proofs.Common.{◌∙◌}
use Rattle.zone_tables.proofs.Scanning.{vacant_seen}
use Rattle.zone_tables.proofs.zone.ZoneTables.vacant.Goals as goal

pub returns : goal.returns
returns g c = c.vacant.ensures ∙ vacant_seen c.self.view_is c.self.invariant
