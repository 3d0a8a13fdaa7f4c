use Rattle.table_core.proofs.Walking.{Walked}
use Rattle.table_core.proofs.walks.walk.Given as goal

abbrev pub invariant-loop-place : goal.invariant-loop-place
invariant-loop-place l = Walked l.entries.entries l.entry l.found.items l.place
