use Rattle.std.proofs.Common.{◌≡◌, true}
use Rattle.hand_core.proofs.giver.Giver.close.Given as goal

abbrev pub invariant-loop-taker : goal.invariant-loop-taker
invariant-loop-taker g l = l.self ≡ record l.fn.self { closed = true; marks = l._taker }
