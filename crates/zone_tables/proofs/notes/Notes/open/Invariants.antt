use Rattle.std.proofs.Common.{◌≡◌, ◌+◌, replicate}
use Rattle.zone_tables.specs.Notes.{unused_note}
use Rattle.zone_tables.proofs.notes.Notes.open.Given as goal

-- the notes so far are those of numbers that aren't in use, and there is still room for the others
abbrev pub invariant-loop : goal.invariant-loop
invariant-loop l = record {
  unused : l.notes.items ≡ replicate l.counter unused_note;
  room : l.notes.room + l.counter ≡ l.count;
}
