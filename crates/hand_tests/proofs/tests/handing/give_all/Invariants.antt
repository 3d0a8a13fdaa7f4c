use Rattle.std.proofs.Common.{◌≡◌, false, length}
use Rattle.hand_tests.proofs.tests.handing.give_all.Given as goal

abbrev pub invariant-loop-number : goal.invariant-loop-number
invariant-loop-number g l = record {
  same : l.giver.hand_over ≡ l.fn.giver.hand_over;
  open_still : l.giver.closed ≡ false;
  base : l.giver.base ≡ 5;
  given : length l.giver.given ≡ l.number;
}
