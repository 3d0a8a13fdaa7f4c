use Rattle.zone_core.proofs.Claims.{IsDropping}
use Rattle.zone_core.proofs.bare.BareZone.drop_claims.Given as goal

abbrev pub invariant-loop-offset : goal.invariant-loop-offset
invariant-loop-offset g l = IsDropping l.first l.offset l.fn.self l.self-inside.tables.value
