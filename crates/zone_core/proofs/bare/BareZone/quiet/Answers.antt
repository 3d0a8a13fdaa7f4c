use Rattle.std.proofs.Common.{◌∙◌, ap, subst, sym}
use Rattle.std.specs.Prelude.{◌&&◌}
use Rattle.state_core.specs.Valid.{IsValidZone}
use Rattle.state_core.specs.ZoneState.{keeps_quiet, is_quiet}
use Rattle.state_core.proofs.Quiet.{quiet_noted}
use Rattle.zone_core.proofs.bare.BareZone.quiet.Goals as goal

pub returns-clause-next : goal.returns-clause-next
returns-clause-next g c entry =
    quiet_noted c.args.self.now (subst IsValidZone c.self.view_is c.self.invariant) entry
    ∙ sym (ap (λ b. b && keeps_quiet entry) (c.quiet.ensures ∙ ap is_quiet (c.deref.ensures ∙ c.self.view_is)))

pub returns-clause-swept : goal.returns-clause-swept
returns-clause-swept g c quiet = (subst IsValidZone c.self.view_is c.self.invariant).fingers.swept (sym (c.quiet.ensures ∙ ap is_quiet (c.deref.ensures ∙ c.self.view_is)) ∙ quiet)
