use Rattle.std.proofs.Common.{◌≡◌, refl, None}
use Rattle.frame_core.specs.Moves.{isolated}
use Rattle.zone_core.specs.Alone.{IsAtRest, KeepsAlone, KeepsScanning}
use Rattle.zone_core.proofs.Alone.{alone_begins, alone_lets_go, alone_scans, alone_unpinned, alone_commits, alone_puts_back}
use Rattle.round_core.specs.Alone.{StopsAlone, QuietAlone}
use Rattle.round_core.proofs.ByHand.{goes_on_alone, stops_alone}
use Rattle.round_core.proofs.QuietAlone.{quiet_begins, quiet_scans, quiet_commits, quiet_puts_back}
use Rattle.round_core.proofs.alone.compact_alone.Given as goal

-- the zone that is shared
abbrev pub ghosts-run_shared-K-ZoneIdentity : goal.ghosts-run_shared-K-ZoneIdentity
ghosts-run_shared-K-ZoneIdentity g a = record { number = a.zone.number; blocks = a.zone.blocks }

-- and what its lock keeps, since nobody else has it: what the round comes to
abbrev pub ghosts-run_shared-K-Keeping : goal.ghosts-run_shared-K-Keeping
ghosts-run_shared-K-Keeping g a = record {
  keeps = λ z. KeepsAlone a.zone z × QuietAlone a.zone z;
  keeps_scanning = λ z. KeepsScanning a.zone z × QuietAlone a.zone z;
  begins_at = λ n. n ≡ isolated a.zone.records;
  stops_at = StopsAlone a.zone;
  unpinned = IsAtRest a.zone;
  allows = λ client pair. ⊥;
  told = λ records. None;
  begins = λ z law at keeps. (alone_begins a.zone z law at keeps.0, quiet_begins a.zone z at);
  goes_on = λ z law begun keeps. (goes_on_alone a.zone z law begun keeps.0, keeps.1);
  lets_go = λ z keeps. (alone_lets_go a.zone z keeps.0, keeps.1);
  scans = λ z law keeps. (alone_scans a.zone z law keeps.0, quiet_scans a.zone z law keeps.0 keeps.1);
  stops = λ z law keeps. stops_alone a.zone z law keeps.0;
  commits = λ z page serial source target law at keeps. (
    alone_commits a.zone z page serial source target law at keeps.0,
    quiet_commits a.zone z page serial source target law at keeps.0 keeps.1,
  );
  puts_back = λ z page serial source target cause law has at keeps. (
    alone_puts_back a.zone z page serial source target cause law has at keeps.0,
    quiet_puts_back a.zone z page serial cause keeps.0,
  );
  pins_none = λ z page serial source target rest law keeps. alone_unpinned a.zone z page serial source target rest keeps.0;
  calls = λ z z_new client pair never law call keeps. absurd never;
  tells = λ z z_new client pair never call keeps. absurd never;
  tells_none = λ entry records of_round. refl;
  pairs = λ client pair records never. absurd never;
}
