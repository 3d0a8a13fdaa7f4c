use Rattle.std.proofs.Common.{◌≡◌, false}
use Rattle.hand_core.specs.CopyEnds.{has_ended}
use Rattle.hand_tests.proofs.tests.copying.take_all.Given as goal

abbrev pub invariant-loop : goal.invariant-loop
invariant-loop g l = record { same : l.taker.queue ≡ l.fn.taker.queue; going : has_ended l.taker ≡ false }
