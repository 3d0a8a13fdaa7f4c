use Rattle.std.proofs.Common.{◌≡◌}
use Rattle.client_core.proofs.making.retry_while_moving.Given as goal

-- each call before was refused
abbrev pub invariant-loop : goal.invariant-loop
invariant-loop g l = record { slip : l.slip ≡ l.fn.slip }
