use Rattle.std.proofs.Common.{◌≡◌, ◌+◌, ◌≤◌, length, drop}
use Rattle.frame_core.specs.Access.{access_record, with_each}
use Rattle.frame_core.proofs.journal.Journal.keep_each.Given as goal

abbrev pub invariant-loop-offset : goal.invariant-loop-offset
invariant-loop-offset l = record {
  room : length (drop l.offset l.values) ≤ l.self.room;
  left : l.self.room + length l.values ≡ l.fn.self.room + length (drop l.offset l.values);
  records : with_each (access_record l.access) (l.from + l.offset) (drop l.offset l.values) l.self.records ≡ with_each (access_record l.access) l.from l.values l.fn.self.records;
}
