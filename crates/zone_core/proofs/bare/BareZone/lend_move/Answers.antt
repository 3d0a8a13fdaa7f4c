use Rattle.std.proofs.Common.{subst}
use Rattle.std.specs.Prelude.{Option, IfNone}
use Rattle.state_core.specs.Pairs.{HaveMet}
use Rattle.state_core.specs.Valid.{IsValidZone}
use Rattle.state_core.specs.declared.round.Pair.{Pair}
use Rattle.state_core.proofs.Packing.{packed_quiet}
use Rattle.zone_core.proofs.bare.BareZone.lend_move.Goals as goal

pub returns-in_default-clause-packed : goal.returns-in_default-clause-packed
returns-in_default-clause-packed g c = λ met quiet none.
    packed_quiet c.args.self.now (subst IsValidZone c.self.view_is c.self.invariant) quiet none (subst (λ (o : Option Pair). IfNone o (HaveMet c.args.self.now)) c.in_default.is c.in_ok-found.ensures.none)
