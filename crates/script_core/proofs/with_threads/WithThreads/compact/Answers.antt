use Rattle.script_core.proofs.Rounds.{came_by_hand}
use Rattle.script_core.proofs.with_threads.WithThreads.compact.Goals as goal

pub returns-clause-by_hand : goal.returns-clause-by_hand
returns-clause-by_hand g c =
    let ran = c.compact_alone.ensures in
    came_by_hand c.args.zone c.compact_alone.result.0 c.args.seats.now.scan c.compact_alone.new.seats.scan c.args.seats.now.ends c.compact_alone.new.seats.ends c.compact_alone.result.1
    ran.exact ran.count ran.none_back ran.stopped ran.unbegun ran.round ran.early
