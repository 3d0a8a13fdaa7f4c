-- Sets of numbers below a bound.
use Rattle.std.specs.Prelude.{ℕ, zero, suc, ◌+◌, ◌*◌, ◌/◌, Bool, List, length, refl, if◌then◌else◌}
use Rattle.std.specs.Coded.{Coded, code_by, coded×, coded_ℕ}
use Rattle.std.specs.Ordering.{nat_cmp}
use Rattle.std.specs.FinSet as set
use Rattle.number_set.specs.Bits.{has_number}

-- a set of numbers, and the bound below which each of them is
pub record Numbers : Type 0 where
  pub members : set.FinSet nat_cmp
  pub bound : ℕ

-- such a set is coded as the pair of its fields
abbrev pub coded_numbers : Coded Numbers
coded_numbers =
    code_by (set.FinSet nat_cmp × ℕ) (coded× (set.code {R = nat_cmp} coded_ℕ) coded_ℕ) (λ s. (s.members, s.bound)) (λ p. record { members = p.0; bound = p.1 }) (λ _. refl)

-- the set of the numbers below n that pass
abbrev pub gathered : (ℕ → Bool) → ℕ → set.FinSet nat_cmp
gathered p zero = set.empty
gathered p (suc n) = if p n then set.insert (gathered p n) n else gathered p n

-- the set of the numbers whose bits are set
abbrev pub numbers_of : List ℕ → set.FinSet nat_cmp
numbers_of words = gathered (has_number words) (64 * length words)

-- the set with its bound, which is the number of bits
abbrev pub numbers_in : List ℕ → Numbers
numbers_in words = record { members = numbers_of words; bound = 64 * length words }

-- the bound of a set that is opened for the numbers below another bound: that of whole words
abbrev pub room_for : ℕ → ℕ
room_for bound = 64 * ((bound + 63) / 64)
