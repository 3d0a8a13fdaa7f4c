use Rattle.std.proofs.Common.{◌≡◌}
use Rattle.client_core.proofs.client.bulk.retry_bulk_while_moving.Given as goal

-- each call before was refused
abbrev pub invariant-loop : goal.invariant-loop
invariant-loop g l = record {
  words : l.words ≡ l.fn.words;
  slip : l.slip ≡ l.fn.slip;
  receipts : l.receipts ≡ l.fn.receipts;
}
