use Rattle.std.proofs.Common.{◌≡◌, false}
use Rattle.hand_core.specs.CopyEnds.{has_ended}
use Rattle.round_core.proofs.committer.commit_all.Given as goal

abbrev pub invariant-loop : goal.invariant-loop
invariant-loop g l = record {
  going : has_ended l.copies.taker ≡ false;
  parts : l.seat.parts ≡ l.fn.seat.parts;
  back : g.K.Keeping.unpinned → l.seat.back ≡ l.fn.seat.back;
}
