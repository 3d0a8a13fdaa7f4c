use Rattle.zone_core.proofs.Claims.{IsClaiming}
use Rattle.zone_core.proofs.bare.BareZone.claim_free.Given as goal

abbrev pub invariant-loop-offset : goal.invariant-loop-offset
invariant-loop-offset g l = IsClaiming l.first l.offset l.fn.self l.self-inside.tables.value
