use Rattle.round_core.specs.Copying.{IsUnderWay}
use Rattle.round_core.proofs.copier.carry.Given as goal

abbrev pub invariant-loop : goal.invariant-loop
invariant-loop g l = IsUnderWay l.fn.taker l.fn.sender l.carried l.copies.items
