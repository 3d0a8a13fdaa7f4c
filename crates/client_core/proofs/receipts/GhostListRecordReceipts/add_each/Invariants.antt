use Rattle.std.proofs.Common.{◌≡◌, ◌+◌, ◌++◌, drop, reverse}
use Rattle.frame_core.specs.Access.{access_record}
use Rattle.client_core.specs.Bulk.{records_each}
use Rattle.client_core.proofs.receipts.GhostListRecordReceipts.add_each.Given as goal

-- with those that are left to be added, the receipts are what they are to be
abbrev pub invariant-loop-offset : goal.invariant-loop-offset
invariant-loop-offset l =
    reverse l.self ++ records_each (access_record l.access) (l.from + l.offset) (drop l.offset l.values) ≡ reverse l.fn.self ++ records_each (access_record l.access) l.from l.values
