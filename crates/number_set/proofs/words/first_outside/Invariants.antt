use Rattle.std.proofs.Common.{◌≡◌, ℕ, ◌*◌, ◌<◌, ◌≤◌, false}
use Rattle.std.specs.Prelude.{not, ◌||◌}
use Rattle.number_set.specs.Bits.{has_number}
use Rattle.number_set.proofs.words.first_outside.Given as goal

abbrev pub invariant-loop-word : goal.invariant-loop-word
invariant-loop-word l = record {
  none : (k : ℕ) → l.from ≤ k → k < 64 * l.word → not (has_number l.first k || has_number l.second k || has_number l.third k) ≡ false;
}
