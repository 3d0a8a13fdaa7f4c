use Rattle.std.proofs.Common.{◌≡◌, ℕ, ◌<◌, length, get_or}
use Rattle.compactd_c.proofs.reserving.write_numbers.Given as goal

abbrev pub invariant-loop-place : goal.invariant-loop-place
invariant-loop-place l = (length l.numbers ≡ length l.frames) × ((at : ℕ) → at < l.place → get_or l.numbers at 0 ≡ get_or l.frames at 0)
