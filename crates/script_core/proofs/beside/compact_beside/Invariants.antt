use Rattle.std.proofs.Common.{◌≡◌, Some}
use Rattle.round_core.specs.Calls.{IsAddedBeside}
use Rattle.client_core.proofs.Since.{told_newer, told_newer_call, told_newer_none}
use Rattle.round_core.proofs.Beside.{added_back, added_call, added_commit, added_scan}
use Rattle.script_core.proofs.beside.compact_beside.Given as goal

-- the zone that is shared
abbrev pub ghosts-compact_with_turn-K-ZoneIdentity : goal.ghosts-compact_with_turn-K-ZoneIdentity
ghosts-compact_with_turn-K-ZoneIdentity g a = record { number = a.zone.number; blocks = a.zone.blocks }

-- and what its lock keeps: the round and the one client add to the journal, and nobody else does
abbrev pub ghosts-compact_with_turn-K-Keeping : goal.ghosts-compact_with_turn-K-Keeping
ghosts-compact_with_turn-K-Keeping g a =
    let number = a.turn.client.number in
    let before = a.zone.records in
    record {
      keeps = λ z. IsAddedBeside number before z.records;
      keeps_scanning = λ z. IsAddedBeside number before z.records;
      begins_at = λ n. Unit {0};
      stops_at = λ n stop. Unit {0};
      unpinned = ⊥;
      allows = λ client pair. (client ≡ number) × (Some a.stub.pair ≡ pair);
      told = told_newer a.stub.pair number before;
      begins = λ z law at added. added;
      goes_on = λ z law begun added. added;
      lets_go = λ z added. added;
      scans = added_scan number before;
      stops = λ z law added none. tt;
      commits = λ z page serial source target law at. added_commit number before z page serial;
      puts_back = λ z page serial source target cause law has at. added_back number before z page serial cause;
      pins_none = λ z page serial source target never law added at. absurd never;
      calls = λ z z_new client pair may law. added_call number before z z_new client may.0;
      tells = λ z z_new client pair may call. told_newer_call a.stub.pair number before z z_new client may.0 call;
      tells_none = told_newer_none a.stub.pair number before;
      pairs = λ client pair records may. may.1;
    }

-- and the slip of the client
abbrev pub ghosts-compact_with_turn-J-Telling : goal.ghosts-compact_with_turn-J-Telling
ghosts-compact_with_turn-J-Telling g a = record { pair = Some a.stub.pair; before = a.turn.client.receipts }
