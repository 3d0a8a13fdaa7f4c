use Rattle.std.proofs.Common.{◌≡◌, false}
use Rattle.hand_tests.proofs.tests.copying.send_all.Given as goal

abbrev pub invariant-loop-page : goal.invariant-loop-page
invariant-loop-page g l = record { same : l.sender.queue ≡ l.fn.sender.queue; open_still : l.sender.closed ≡ false }
