use Rattle.std.proofs.Common.{take}
use Rattle.std.specs.Prelude.{All}
use Rattle.client_core.specs.Receipts.{Agrees}
use Rattle.client_core.proofs.settling.settle_clients.Given as goal

abbrev pub invariant-loop-client : goal.invariant-loop-client
invariant-loop-client g l = All (Agrees l.zone.records) (take l.client-index l.clients)
