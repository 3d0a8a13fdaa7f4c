use Rattle.std.proofs.Common.{◌≡◌, ℕ, ◌<◌, false}
use Rattle.std.specs.Prelude.{nat_le, ◌&&◌}
use Rattle.scan_core.specs.Pairs.{is_source}
use Rattle.scan_core.proofs.pair.next_source.Given as goal

abbrev pub invariant-loop-frame : goal.invariant-loop-frame
invariant-loop-frame l = (k : ℕ) → k < l.frame → (nat_le l.fn.fingers.migrate k && is_source l.frames l.movable l.marked k) ≡ false
