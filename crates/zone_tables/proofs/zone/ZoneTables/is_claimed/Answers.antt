use Rattle.std.proofs.Common.{◌∙◌, ap, arith}
use Rattle.state_core.specs.Claiming.{is_claimed}
use Rattle.state_core.specs.ZoneState.{ZoneState}
use Rattle.zone_tables.proofs.Facts.{is_sound}
use Rattle.zone_tables.proofs.zone.ZoneTables.is_claimed.Goals as goal

pub contains-requires : goal.contains-requires
contains-requires g c = let sound = is_sound c.self.view_is c.self.invariant in omega (arith, sound.claimed, c.requires, c.get.ensures.value)

pub returns : goal.returns
returns g c = c.contains.ensures ∙ ap (λ (u : ZoneState). is_claimed u c.get.result) c.self.view_is ∙ ap (is_claimed c.args.self.now) c.get.ensures.value
