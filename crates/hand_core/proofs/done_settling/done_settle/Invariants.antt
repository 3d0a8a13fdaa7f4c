use Rattle.std.proofs.Common.{◌≡◌, ◌++◌, [], List, true, All}
use Rattle.crossbeam_channel.specs.Claims.{view}
use Rattle.hand_core.specs.CopyEnds.{DoneSender, copies_of}
use Rattle.hand_core.proofs.done_settling.done_settle.Given as goal

-- the senders that the loop has passed, whose copies were compared
abbrev pub invariant-loop-sender : goal.invariant-loop-sender
invariant-loop-sender l = record {
  seat : (l.pass.table_id ≡ l.fn.taker.queue.0) × (l.pass.me.0.of ≡ l.fn.taker.queue.1) × (l.pass.me.1 ≡ []);
  takes : (view l.pass).takes ≡ true;
  came : (view l.pass).came ≡ l.fn.taker.came;
  made : (view l.pass).made ≡ l.fn.taker.senders;
  left : All (λ (s : DoneSender). s.queue ≡ l.fn.taker.queue) l.senders.items;
  back : (back : List DoneSender) × (l.fn.senders.items ≡ l.senders.items ++ back) × All (λ (s : DoneSender). copies_of s.number l.fn.taker.came ≡ s.sent) back;
}

abbrev pub decreases-loop-sender : goal.decreases-loop-sender
decreases-loop-sender l = goal.left-loop-sender l
