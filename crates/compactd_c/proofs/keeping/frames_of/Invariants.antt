use Rattle.std.proofs.Common.{◌≡◌, ◌+◌, length, take}
use Rattle.compactd_c.proofs.keeping.frames_of.Given as goal

abbrev pub invariant-loop-number : goal.invariant-loop-number
invariant-loop-number l = (l.frames.items ≡ take l.number-index l.numbers) × (l.number-index + l.frames.room ≡ length l.numbers)
