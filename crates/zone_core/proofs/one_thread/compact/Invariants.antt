use Rattle.std.proofs.Common.{◌≡◌, ◌+◌}
use Rattle.frame_core.specs.Moves.{isolated}
use Rattle.zone_core.proofs.OneThread.{IsBetween}
use Rattle.zone_core.proofs.one_thread.compact.Given as goal

abbrev pub invariant-loop-page : goal.invariant-loop-page
invariant-loop-page g l = record {
  between : IsBetween l.fn.zone l.zone;
  count : l.seats.scan.count ≡ isolated l.zone.records;
  rounds : l.seats.scan.rounds ≡ l.fn.seats.scan.rounds + 1;
  moved : l.seats.ends.moved + l.fn.seats.scan.count ≡ l.fn.seats.ends.moved + l.seats.scan.count;
  back : l.seats.ends.back ≡ l.fn.seats.ends.back;
}

-- each page takes places of the journal
abbrev pub decreases-loop-page : goal.decreases-loop-page
decreases-loop-page g l = l.zone.room
