use Rattle.std.proofs.Common.{◌≡◌, ◌+◌, ◌≤◌, [], All, vec_len, vec_capacity}
use Rattle.round_core.specs.Crews.{IsUnused, IsUnsent}
use Rattle.round_core.proofs.crew.start_copiers.Given as goal

abbrev pub invariant-loop-taker : goal.invariant-loop-taker
invariant-loop-taker g l = record {
  giver : l.copier_parts.giver ≡ l.fn.copier_parts.giver;
  copiers : All (λ c. c.promise.taker.value.hand_over ≡ l.fn.copier_parts.giver.hand_over) l.copier_parts.copiers.items;
  started : vec_len l.copier_parts.copiers + vec_len l.copier_parts.takers ≡ vec_len l.fn.copier_parts.takers;
  room : vec_len l.fn.copier_parts.takers ≤ vec_capacity l.copier_parts.copiers;
  takers : All (IsUnused l.fn.copier_parts.giver.hand_over) l.copier_parts.takers.items;
  as_many_senders : vec_len l.copier_parts.senders ≡ vec_len l.copier_parts.takers;
  senders : All IsUnsent l.copier_parts.senders.items;
  as_many_lists : vec_len l.copier_parts.serials ≡ vec_len l.copier_parts.takers;
  lists : All (λ list. list.items ≡ []) l.copier_parts.serials.items;
}

abbrev pub decreases-loop-taker : goal.decreases-loop-taker
decreases-loop-taker g l = vec_len l.copier_parts.takers
