use Rattle.std.proofs.Common.{◌≡◌, ◌*◌}
use Rattle.number_set.specs.Bits.{has_number}
use Rattle.number_set.specs.Runs.{count_in_run}
use Rattle.number_set.proofs.words.count_words.Given as goal

abbrev pub invariant-loop-word : goal.invariant-loop-word
invariant-loop-word l = record {
  so_far : l.sum ≡ count_in_run (has_number l.words) (64 * l.first) (64 * l.word);
}
