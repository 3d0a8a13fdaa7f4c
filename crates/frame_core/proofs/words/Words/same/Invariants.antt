use Rattle.std.proofs.Common.{◌≡◌, ℕ, ◌<◌, true, slice_index_or}
use Rattle.frame_core.proofs.words.Words.same.Given as goal

abbrev pub invariant-loop-word : goal.invariant-loop-word
invariant-loop-word g l = record {
  same : l.same ≡ true → (word : ℕ) → word < l.word → slice_index_or l.row word 0 ≡ slice_index_or l.words word 0;
  all : l.row ≡ l.words → l.same ≡ true;
}
