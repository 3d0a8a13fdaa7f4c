use Rattle.std.proofs.Common.{◌∙◌, ap, arith}
use Rattle.frame_core.specs.Below.{highest}
use Rattle.state_core.specs.Pairs.{is_free_unmarked}
use Rattle.zone_tables.proofs.Scanning.{frames_seen}
use Rattle.zone_tables.proofs.zone.ZoneTables.highest_vacant.Goals as goal

pub last_vacant-requires : goal.last_vacant-requires
last_vacant-requires g c = omega (arith, c.len.ensures.len, frames_seen c.self.view_is c.self.invariant)

pub returns : goal.returns
returns g c = c.last_vacant.ensures ∙ ap (highest (is_free_unmarked c.args.self.now)) (c.len.ensures.len ∙ frames_seen c.self.view_is c.self.invariant)
