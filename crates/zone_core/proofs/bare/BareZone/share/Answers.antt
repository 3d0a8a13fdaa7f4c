use Rattle.std.proofs.Common.{rules}
use Rattle.zone_core.proofs.bare.BareZone.share.Goals as goal

pub share-requires : goal.share-requires
share-requires g c = search rules

pub returns : goal.returns
returns g c = search rules
