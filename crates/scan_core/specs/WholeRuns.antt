-- The blocks of each order whose frames all pass.
use Rattle.std.specs.Prelude.{◌≡◌, ℕ, ◌+◌, ◌*◌, ◌/◌, ◌^◌, ◌<◌, ◌≤◌, Bool, true, false}
use Rattle.std.specs.FinSet as set
use Rattle.scan_core.specs.NumberSet.{all_from, in_run}
use Rattle.scan_core.specs.declared.whole_runs.WholeRuns.{WholeRuns}

-- there are some pageblocks, and the blocks of each order have numbers
pub record IsOpen (runs : WholeRuns) : Type 0 where
  pub some : 0 < runs.blocks
  pub few : runs.blocks ≤ 32768
  pub room : 128 * runs.blocks ≤ runs.numbers.bound

-- of the blocks of each order, those are members whose frames all pass: block `run` of an order has the frames from
-- run * 2 ^ order on, and as many numbers stand below those of an order as it has blocks
abbrev pub HasWholeRuns : WholeRuns → (ℕ → Bool) → Type 0
HasWholeRuns runs p =
    (order run : ℕ) → 3 ≤ order → order ≤ 9 → run < 512 * runs.blocks / 2 ^ order → set.contains runs.numbers.members (512 * runs.blocks / 2 ^ order + run) ≡ all_from p (run * 2 ^ order) (2 ^ order)

-- outside of a run r is as p, and each number of the run passes r
pub record Fills (p r : ℕ → Bool) (first count : ℕ) : Type 0 where
  pub outside : (k : ℕ) → in_run first count k ≡ false → r k ≡ p k
  pub all : all_from r first count ≡ true

-- outside of a run r is as p, each number of the run passes p, and of each eight of the run one doesn't pass r
pub record Empties (p r : ℕ → Bool) (first count : ℕ) : Type 0 where
  pub outside : (k : ℕ) → in_run first count k ≡ false → r k ≡ p k
  pub all : all_from p first count ≡ true
  pub none : (eight : ℕ) → in_run first count (8 * eight) ≡ true → all_from r (8 * eight) 8 ≡ false
