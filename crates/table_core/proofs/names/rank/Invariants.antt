use Rattle.std.proofs.Common.{◌≡◌, ◌+◌, drop}
use Rattle.table_core.specs.Names.{rank}
use Rattle.table_core.proofs.names.rank.Given as goal

-- the addresses that were passed come before this one
abbrev pub invariant-loop-i : goal.invariant-loop-i
invariant-loop-i l = l.i + rank (drop l.i l.addresses) l.address ≡ rank l.addresses l.address
