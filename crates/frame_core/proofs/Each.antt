-- The records of an access to several words.
use Rattle.std.proofs.Common.{◌≡◌, ℕ, ◌+◌, List, [], ◌∷◌, length, arith}
use Rattle.frame_core.specs.declared.record.Record.{Record}
use Rattle.frame_core.specs.Access.{with_each}

pub length_each : (of : ℕ → ℕ → Record) (word : ℕ) (values : List ℕ) (records : List Record) → length (with_each of word values records) ≡ length values + length records
length_each of word [] records = omega arith
length_each of word (value ∷ values) records = omega (arith, length_each of (word + 1) values (of word value ∷ records))
