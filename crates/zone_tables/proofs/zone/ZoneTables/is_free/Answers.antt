use Rattle.std.proofs.Common.{◌∙◌, arith}
use Rattle.zone_tables.proofs.Facts.{is_sound}
use Rattle.zone_tables.proofs.SearchesAndCounts.{free_seen}
use Rattle.zone_tables.proofs.zone.ZoneTables.is_free.Goals as goal

pub is_free-requires : goal.is_free-requires
is_free-requires g c =
    omega (arith, c.requires, (is_sound c.self.view_is c.self.invariant).frames.count)

pub returns : goal.returns
returns g c =
    c.is_free.ensures ∙ free_seen c.self.inside.frames.states c.args.self.now (is_sound c.self.view_is c.self.invariant).frames c.args.frame c.requires
