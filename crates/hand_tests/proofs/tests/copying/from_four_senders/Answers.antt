use Rattle.std.proofs.Common.{◌∙◌, sym}
use Rattle.hand_tests.proofs.tests.copying.from_four_senders.Goals as goal

-- the senders come back with the queue that they were opened with, and so does the taker
pub done_settle-requires-clause-queue : goal.done_settle-requires-clause-queue
done_settle-requires-clause-queue g c k d below =
    c.join-taker.ensures.second c.opened-senders.result.1.queue c.opened-senders.ensures.queue k d below ∙ sym c.join-taker.ensures.first.0
