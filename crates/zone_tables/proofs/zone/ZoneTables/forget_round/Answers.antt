use Rattle.zone_tables.proofs.Claimed.{forgotten_holds}
use Rattle.zone_tables.proofs.Facts.{is_sound}
use Rattle.zone_tables.proofs.zone.ZoneTables.forget_round.Goals as goal

pub invariant_of-self : goal.invariant_of-self
invariant_of-self g c = (forgotten_holds c.self.inside c.args.self.now (is_sound c.self.view_is c.self.invariant) c.self.view_is c.forget_round.ensures).0

pub returns-clause-step : goal.returns-clause-step
returns-clause-step g c = (forgotten_holds c.self.inside c.args.self.now (is_sound c.self.view_is c.self.invariant) c.self.view_is c.forget_round.ensures).1

pub returns-clause-valid : goal.returns-clause-valid
returns-clause-valid g c = (invariant_of-self g c).valid
