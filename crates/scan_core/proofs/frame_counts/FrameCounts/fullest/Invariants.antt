use Rattle.scan_core.specs.FrameCounts.{IsFullest}
use Rattle.scan_core.proofs.frame_counts.FrameCounts.fullest.Given as goal

abbrev pub invariant-loop-block : goal.invariant-loop-block
invariant-loop-block l = IsFullest l.self l.block l.fullest
