-- Sets of numbers, and runs of numbers.
use Rattle.std.specs.Prelude.{ℕ, zero, suc, ◌+◌, Bool, ◌&&◌, if◌then◌else◌, nat_eq, nat_le, nat_lt}
use Rattle.std.specs.Ordering.{nat_cmp}
use Rattle.std.specs.FinSet as set
use Rattle.frame_core.specs.Below.{count_from}

-- the set of the numbers below n that pass
abbrev pub gathered : (ℕ → Bool) → ℕ → set.FinSet nat_cmp
gathered p zero = set.empty
gathered p (suc n) = if p n then set.insert (gathered p n) n else gathered p n

-- whether a number is in a run: one of `count` numbers, from `first` upwards
abbrev pub in_run : ℕ → ℕ → ℕ → Bool
in_run first count number = nat_le first number && nat_lt number (first + count)

-- whether each number of a run passes
abbrev pub all_from : (ℕ → Bool) → ℕ → ℕ → Bool
all_from p first count = nat_eq (count_from p first count) count
