use Rattle.zone_tables.proofs.Facts.{is_sound}
use Rattle.zone_tables.proofs.LentBlocks.{lends_none, none_lent}
use Rattle.zone_tables.proofs.zone.ZoneTables.lends_none.Goals as goal

pub returns : goal.returns
returns g c = (
  λ told. lends_none c.self.inside c.args.self.now c.self.view_is (c.lends_none.ensures.0 told),
  λ none. c.lends_none.ensures.1 (none_lent c.self.inside c.args.self.now (is_sound c.self.view_is c.self.invariant) none),
)
