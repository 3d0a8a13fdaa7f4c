use Rattle.std.proofs.Common.{arith}
use Rattle.zone_core.proofs.MaximalRuns.{free_frames_few}
use Rattle.zone_core.proofs.bare.BareZone.fragmentation.Goals as goal

pub scattered-requires-clause-free : goal.scattered-requires-clause-free
scattered-requires-clause-free g c = omega (arith, c.free_frames.ensures, c.count_all_runs-runs.ensures.runs, free_frames_few c.args.self.now)
