use Rattle.std.proofs.Common.{◌≡◌, ◌*◌}
use Rattle.number_set.specs.Bits.{has_number}
use Rattle.number_set.specs.Runs.{begins_run, count_in_run}
use Rattle.number_set.proofs.words.count_runs.Given as goal

abbrev pub invariant-loop-word : goal.invariant-loop-word
invariant-loop-word l = record {
  so_far : l.sum ≡ count_in_run (begins_run (has_number l.words) l.order) 0 (64 * l.word);
}
