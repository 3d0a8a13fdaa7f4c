use Rattle.std.proofs.Common.{rules}
use Rattle.zone_core.proofs.bare.BareZone.unpin.Goals as goal

pub unpin-requires : goal.unpin-requires
unpin-requires g c = search rules

pub returns : goal.returns
returns g c = search rules
