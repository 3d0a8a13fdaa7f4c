use Rattle.zone_core.proofs.Packed.{packed_exact}
use Rattle.zone_core.proofs.outcome.packs_a_calm_zone.Goals as goal

pub returns : goal.returns
returns c = packed_exact
