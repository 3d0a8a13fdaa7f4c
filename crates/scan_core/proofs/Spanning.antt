-- Runs of numbers.
use Rattle.std.proofs.Common.{◌≡◌, ℕ, ◌+◌, ◌<◌, ◌≤◌, Bool, true, sym, eq-eqb, arith}
use Rattle.std.specs.Prelude.{nat_le, nat_lt, ◌&&◌}
use Rattle.std.proofs.lemmas.Bool.{ltb-true, leb-true, lt-ltb, le-leb}
pub use Rattle.std.proofs.lemmas.Bool.{and_parts as both}
use Rattle.frame_core.proofs.Searches.{count_from_all}
use Rattle.scan_core.specs.NumberSet.{all_from, in_run}

pub same_by : (a b : Bool) → (a ≡ true → b ≡ true) → (b ≡ true → a ≡ true) → a ≡ b
same_by a b to from = grind (arith, to, from)

pub in_run_is : (first count n : ℕ) → in_run first count n ≡ true → (first ≤ n) × (n < first + count)
in_run_is first count n e = let parts = both (nat_le first n) (nat_lt n (first + count)) e in (leb-true first n parts.0, ltb-true n (first + count) parts.1)

pub is_in_run : (first count n : ℕ) → first ≤ n → n < first + count → in_run first count n ≡ true
is_in_run first count n low high = λ i. le-leb first n low i && lt-ltb n (first + count) high i

pub all_members : (p : ℕ → Bool) (first count : ℕ) → ((n : ℕ) → in_run first count n ≡ true → p n ≡ true) → true ≡ all_from p first count
all_members p first count each = sym (eq-eqb _ _ (count_from_all p first count (λ k low high. each k (is_in_run first count k low high))))
