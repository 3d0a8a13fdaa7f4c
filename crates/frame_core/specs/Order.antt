-- Blocks of an order.
use Rattle.std.specs.Prelude.{ℕ, ◌*◌, ◌/◌, ◌^◌, Bool, nat_eq}

-- whether a block of this order may begin at a frame: its number is a multiple of the block's frames
abbrev pub is_aligned : ℕ → ℕ → Bool
is_aligned order frame = nat_eq (frame / 2 ^ order * 2 ^ order) frame
