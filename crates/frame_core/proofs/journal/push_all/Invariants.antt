use Rattle.std.proofs.Common.{◌≡◌, ◌+◌, drop}
use Rattle.frame_core.specs.Access.{access_record, with_each}
use Rattle.frame_core.proofs.journal.push_all.Given as goal

abbrev pub invariant-loop-offset : goal.invariant-loop-offset
invariant-loop-offset l = record {
  records : with_each (access_record l.access) (l.from + l.offset) (drop l.offset l.values) l.records ≡ with_each (access_record l.access) l.from l.values l.fn.records;
}
