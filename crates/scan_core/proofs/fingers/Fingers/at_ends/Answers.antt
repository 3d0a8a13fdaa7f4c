use Rattle.std.proofs.Common.{rules}
use Rattle.scan_core.proofs.fingers.Fingers.at_ends.Goals as goal

pub returns : goal.returns
returns c = search rules
