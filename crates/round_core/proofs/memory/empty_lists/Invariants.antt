use Rattle.std.proofs.Common.{◌≡◌, ◌≤◌, [], All, vec_len, vec_capacity}
use Rattle.round_core.proofs.memory.empty_lists.Given as goal

abbrev pub invariant-loop-copier : goal.invariant-loop-copier
invariant-loop-copier l = record {
  count : vec_len l.lists ≡ l._copier;
  room : l.copiers ≤ vec_capacity l.lists;
  empty : All (λ list. list.items ≡ []) l.lists.items;
  places : All (λ list. vec_capacity list ≡ l.serials) l.lists.items;
}
