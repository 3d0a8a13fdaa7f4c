use Rattle.std.proofs.Common.{◌≡◌, ◌+◌, ◌≤◌, ◌++◌, length, drop}
use Rattle.std.specs.Prelude.{vec_len, vec_capacity}
use Rattle.frame_core.specs.Access.{access_record}
use Rattle.client_core.specs.Bulk.{records_each}
use Rattle.client_core.proofs.receipts.VecRecordReceipts.add_each.Given as goal

-- with those that are left to be added, the receipts are what they are to be
abbrev pub invariant-loop-offset : goal.invariant-loop-offset
invariant-loop-offset l =
    let left = drop l.offset l.values in
    record {
      receipts : l.self.items ++ records_each (access_record l.access) (l.from + l.offset) left ≡ l.fn.self.items ++ records_each (access_record l.access) l.from l.values;
      places : vec_len l.self + length left ≤ vec_capacity l.self;
    }
