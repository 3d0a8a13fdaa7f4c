use Rattle.std.proofs.Common.{rules}
use Rattle.zone_core.proofs.bare.BareZone.unmap.Goals as goal

pub returns : goal.returns
returns g c = search rules
