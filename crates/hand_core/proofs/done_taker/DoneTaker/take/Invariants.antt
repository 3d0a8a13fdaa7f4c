use Rattle.std.proofs.Common.{◌≡◌, false}
use Rattle.hand_core.specs.CopyEnds.{copies_taken, has_ended}
use Rattle.hand_core.proofs.done_taker.DoneTaker.take.Given as goal

-- no copy was answered so far, and the last mark was not received
abbrev pub invariant-loop : goal.invariant-loop
invariant-loop g l = record {
  copies : copies_taken l.self ≡ copies_taken l.fn.self;
  going : has_ended l.self ≡ false;
  same : l.self ≡ record l.fn.self { came = l.self.came; in_hand = l.self.in_hand };
}
