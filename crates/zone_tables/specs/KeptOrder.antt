-- What the byte says that keeps the order of a block, or that there is no block.
use Rattle.std.specs.Prelude.{ℕ, nat_eq, if◌then◌else◌, Option, Some, None}

-- the order, where the byte isn't zero
abbrev pub order_kept : ℕ → Option ℕ
order_kept number = if nat_eq number 0 then None else Some number
