-- Runs of numbers.
use Rattle.std.specs.Prelude.{ℕ, zero, suc, ◌+◌, ◌*◌, ◌/◌, ◌^◌, Bool, ◌&&◌, nat_eq, nat_le, nat_lt, if◌then◌else◌}

-- whether a number is in a run: one of `count` numbers, from `first` upwards
abbrev pub in_run : ℕ → ℕ → ℕ → Bool
in_run first count number = nat_le first number && nat_lt number (first + count)

-- how many numbers of such a run pass
abbrev pub count_in_run : (ℕ → Bool) → ℕ → ℕ → ℕ
count_in_run p first zero = 0
count_in_run p first (suc n) = (if p (first + n) then 1 else 0) + count_in_run p first n

-- whether a run of 2^order numbers begins at a number: it is a multiple of 2^order, and each number of the run passes
abbrev pub begins_run : (ℕ → Bool) → ℕ → ℕ → Bool
begins_run p order first = nat_eq (first / 2 ^ order * 2 ^ order) first && nat_eq (count_in_run p first (2 ^ order)) (2 ^ order)
