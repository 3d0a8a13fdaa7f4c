use Rattle.std.proofs.Common.{◌+◌, arith}
use Rattle.row_core.proofs.Lists.{part_here}
use Rattle.memory_tests.proofs.tests.rows.copy_one.Goals as goal

pub copy_within-requires-clause-source : goal.copy_within-requires-clause-source
copy_within-requires-clause-source c =
    part_here c.args.ground.now.here (c.args.size + c.args.size) 0 c.args.size c.requires.here (omega arith)
