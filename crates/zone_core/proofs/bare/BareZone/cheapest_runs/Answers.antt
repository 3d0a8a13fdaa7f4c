use Rattle.std.proofs.Common.{sym, arith}
use Rattle.std.proofs.lemmas.Bool.{leb-true}
use Rattle.zone_core.proofs.bare.BareZone.cheapest_runs.Goals as goal

pub pick-requires : goal.pick-requires
pick-requires g c = (omega arith, omega (arith, leb-true _ _ (sym c.in_ok-pages.ensures.there)))
