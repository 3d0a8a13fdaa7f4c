use Rattle.std.proofs.Common.{◌∙◌}
use Rattle.zone_tables.proofs.Scanning.{end_seen, last_vacant_seen}
use Rattle.zone_tables.proofs.zone.ZoneTables.last_vacant.Goals as goal

pub last_vacant-requires-clause-end : goal.last_vacant-requires-clause-end
last_vacant-requires-clause-end g c = end_seen c.self.view_is c.self.invariant c.args.end c.requires

pub returns : goal.returns
returns g c = c.last_vacant.ensures ∙ last_vacant_seen c.self.view_is c.self.invariant c.args.end c.requires
