use Rattle.std.proofs.Common.{rules}
use Rattle.round_core.proofs.Copying.{from_here, goes_on}
use Rattle.round_core.proofs.copier.carry.Goals as goal

pub carry_next-requires-clause-way : goal.carry_next-requires-clause-way
carry_next-requires-clause-way g c = λ κs lives. from_here c.loop.invariant

pub loop-preserved : goal.loop-preserved
loop-preserved g c = goes_on c.loop.invariant (c.carry_next.ensures.more (search rules))
