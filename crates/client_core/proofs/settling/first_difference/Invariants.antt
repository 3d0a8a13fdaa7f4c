use Rattle.std.proofs.Common.{◌≡◌, ◌≤◌, length, take}
use Rattle.std.specs.List.{filter}
use Rattle.round_core.specs.Calls.{is_of}
use Rattle.client_core.proofs.settling.first_difference.Given as goal

-- the client's records among those passed so far are the first of its receipts
abbrev pub invariant-loop-entry : goal.invariant-loop-entry
invariant-loop-entry l = record {
  same : filter (is_of l.client.number) (take l.entry-index l.records) ≡ take l.next l.receipts;
  within : l.next ≤ length l.receipts;
}
