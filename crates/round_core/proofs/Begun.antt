-- A scanner that has begun.
use Rattle.std.proofs.Common.{ℕ, ◌<◌, arith}
use Rattle.round_core.specs.Scanning.{HasBegun}

pub begun_first : (begins_at : ℕ → Type 0) (base n : ℕ) → begins_at base → base < n → HasBegun begins_at n
begun_first begins_at base n begun more = record { base = base; begun = begun; more = more }

pub begun_more : (begins_at : ℕ → Type 0) (m n : ℕ) → HasBegun begins_at m → m < n → HasBegun begins_at n
begun_more begins_at m n begun more = let before = begun.more in record { base = begun.base; begun = begun.begun; more = omega arith }
