use Rattle.std.proofs.Common.{◌≡◌, ◌+◌, ◌≤◌, All, vec_len, vec_capacity}
use Rattle.round_core.specs.Runs.{AreJoined}
use Rattle.round_core.proofs.crew.join_copiers.Given as goal

abbrev pub invariant-loop-copier : goal.invariant-loop-copier
invariant-loop-copier g l = record {
  copiers : All (λ c. c.promise.taker.value.hand_over ≡ l.giver.hand_over) l.copiers.items;
  room : vec_len l.joined.takers + vec_len l.copiers ≤ vec_capacity l.joined.takers;
  room_of_lists : vec_len l.joined.lists + vec_len l.copiers ≤ vec_capacity l.joined.lists;
  joined : AreJoined l.giver l.joined;
  lists : vec_len l.joined.lists + vec_len l.copiers ≡ vec_len l.fn.copiers;
}

abbrev pub decreases-loop-copier : goal.decreases-loop-copier
decreases-loop-copier g l = goal.left-loop-copier g l
