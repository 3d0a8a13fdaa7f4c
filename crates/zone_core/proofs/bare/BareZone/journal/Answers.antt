use Rattle.std.proofs.Common.{subst}
use Rattle.state_core.specs.Valid.{IsValidZone}
use Rattle.state_core.proofs.HandingOut.{blocks_are_clear}
use Rattle.zone_core.proofs.bare.BareZone.journal.Goals as goal

pub returns-clause-clear : goal.returns-clause-clear
returns-clause-clear g c = blocks_are_clear c.args.self.now (subst IsValidZone c.self.view_is c.self.invariant)

pub returns-clause-apart : goal.returns-clause-apart
returns-clause-apart g c = let law : IsValidZone c.args.self.now = subst IsValidZone c.self.view_is c.self.invariant in law.blocks.disjoint
