use Rattle.std.proofs.Common.{◌≡◌, ◌≢◌, []}
use Rattle.hand_core.proofs.taker.Taker.take.Given as goal

-- nothing was answered so far, and the queue was only asked with an empty hand
abbrev pub invariant-loop : goal.invariant-loop
invariant-loop g l = record {
  same : l.self ≡ record l.fn.self { in_hand = l.self.in_hand };
  held : l.fn.self.in_hand ≢ [] → l.self ≡ l.fn.self;
}
