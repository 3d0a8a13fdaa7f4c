-- What a set with a bound tells of its level of words.
use Rattle.std.proofs.Common.{◌≡◌, ℕ, Bool, true, List, ap, subst}
use Rattle.std.specs.Prelude.{◌↔◌, IsTrue}
use Rattle.std.specs.FinSet as set
use Rattle.number_set.specs.Bits.{has_number}
use Rattle.number_set.specs.Numbers.{Numbers, numbers_in}
use Rattle.number_set.specs.Runs.{in_run}
use Rattle.number_set.proofs.OneAbove.{run_members}

pub members_of : {s t : Numbers} → s ≡ t → s.members ≡ t.members
members_of same = ap (λ (s : Numbers). s.members) same

pub bound_of : {s t : Numbers} → s ≡ t → s.bound ≡ t.bound
bound_of same = ap (λ (s : Numbers). s.bound) same

-- a run was asked for in the words that were lent
pub lent_has : (words : List ℕ) (s : Numbers) → numbers_in words ≡ s → (lent : List ℕ) (has : Bool) (first count : ℕ) → lent ≡ words → (IsTrue has ↔ ((n : ℕ) → in_run first count n ≡ true → has_number lent n ≡ true)) → IsTrue has ↔ ((n : ℕ) → in_run first count n ≡ true → set.contains s.members n ≡ true)
lent_has words s view lent has first count same told = run_members words s.members has first count (members_of view) (subst (λ ws. IsTrue has ↔ ((n : ℕ) → in_run first count n ≡ true → has_number ws n ≡ true)) same told)
