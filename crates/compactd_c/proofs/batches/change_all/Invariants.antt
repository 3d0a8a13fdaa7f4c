use Rattle.compactd_c.proofs.Turns.{HaveTurns}
use Rattle.compactd_c.proofs.batches.change_all.Given as goal

abbrev pub invariant-loop-request : goal.invariant-loop-request
invariant-loop-request l = HaveTurns l.client l.change l.fn.zone l.fn.requests l.request-index l.zone l.requests l.first
