use Rattle.std.proofs.Common.{◌≡◌, false}
use Rattle.hand_tests.proofs.tests.handing.take_all.Given as goal

abbrev pub invariant-loop : goal.invariant-loop
invariant-loop g l = record { same : l.taker.hand_over ≡ l.fn.taker.hand_over; going : l.taker.ended ≡ false }
