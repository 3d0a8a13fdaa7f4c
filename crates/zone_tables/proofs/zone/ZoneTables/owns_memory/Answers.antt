use Rattle.std.proofs.Common.{◌∙◌, ap, not}
use Rattle.zone_tables.proofs.LendingBlocks.{own_seen}
use Rattle.zone_tables.proofs.zone.ZoneTables.owns_memory.Goals as goal

pub returns : goal.returns
returns g c = ap not c.is_given.ensures ∙ own_seen c.self.inside c.args.self.now c.self.view_is
