use Rattle.std.proofs.Common.{rules}
use Rattle.frame_core.proofs.journal.Journal.room.Goals as goal

pub returns : goal.returns
returns c = search rules
