-- A pool whose zone is lent.
use Rattle.std.specs.Prelude.{Option, Some}
use Rattle.std.specs.Borrow.{LendsIf, MutBor, Fml}
use Rattle.state_core.specs.ZoneState.{ZoneState}
use Rattle.compactd_c.specs.contracts.zone.Zone as zone
use Rattle.compactd_c.specs.contracts.pool.Pool as pool

-- the pool with this zone at its pointer
abbrev pub with_zone : pool.the_row.Denot → ZoneState → pool.the_row.Denot
with_zone p z = record p { zone = Some z }

-- once the loan has ended, the pool has the zone as the loan left it; a closed pool lends nothing, and is as it was
abbrev pub LendsZone : MutBor pool.the_row.Denot → Option (MutBor ZoneState) → Fml
LendsZone p lent = LendsIf pool.the_row zone.the_row p lent (with_zone p.now) p.now
