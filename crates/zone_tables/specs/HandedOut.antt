-- The blocks that are handed out.
use Rattle.std.specs.Prelude.{ℕ, Bool, List, slice_get, Option, is_some, ◌&&◌}
use Rattle.std.specs.Option.{option_and_then}
use Rattle.frame_core.specs.FrameSet.{has_frame}

-- the order of the block that is handed out from this first frame on, if there is one
abbrev pub order_of : List (Option ℕ) → ℕ → Option ℕ
order_of orders first = option_and_then (λ (order : Option ℕ). order) (slice_get orders first)

-- whether the words of the block that is handed out from this first frame on are lent
abbrev pub is_lent_at : List Bool → List (Option ℕ) → ℕ → Bool
is_lent_at lent orders first = is_some (order_of orders first) && has_frame lent first
