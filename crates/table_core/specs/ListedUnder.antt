-- The frame under which an address is listed, as one number.
use Rattle.std.specs.Prelude.{ℕ, Option, Some, None, if◌then◌else◌, nat_lt}

-- the frame that a number stands for: 16777216 stands for none
abbrev pub frame_of : ℕ → Option ℕ
frame_of number = if nat_lt number 16777216 then Some number else None
