use Rattle.zone_core.proofs.HandingOut.{IsHandingOut}
use Rattle.zone_core.proofs.bare.BareZone.hand_out_each.Given as goal

abbrev pub invariant-loop-place : goal.invariant-loop-place
invariant-loop-place g l = IsHandingOut l.fn.self l.order l.firsts l.self-inside.tables.value l.place
