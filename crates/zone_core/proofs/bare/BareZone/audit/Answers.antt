use Rattle.std.proofs.Common.{◌∙◌, subst, sym}
use Rattle.std.specs.Prelude.{IfOk}
use Rattle.state_core.specs.declared.error.ZoneError.TheVariants.{Out}
use Rattle.state_core.specs.Valid.{IsValidZone}
use Rattle.zone_core.specs.Counted.{IsCounted}
use Rattle.zone_core.proofs.Seated.{counted}
use Rattle.zone_core.proofs.bare.BareZone.audit.Goals as goal

pub returns-clause-ok : goal.returns-clause-ok
returns-clause-ok g c =
    let counts = c.counted.ensures in
    subst (λ r. IfOk r (λ audit. IsCounted c.args.self.now audit)) (sym c.ok_or.ensures.value)
    (counted c.deref.result.now c.args.self.now c.counted.result Out (c.deref.ensures ∙ c.self.view_is) (subst IsValidZone (sym c.deref.ensures) c.self.invariant) counts.some counts.isolated counts.moved counts.back counts.sum)
