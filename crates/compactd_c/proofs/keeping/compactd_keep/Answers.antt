use Rattle.std.proofs.Common.{◌≡◌, Option, Some, refl, ap, sym, ◌∙◌, subst}
use Rattle.std.specs.Prelude.{unwrap_or}
use Rattle.keeper_core.specs.Keeping.{IsKept}
use Rattle.state_core.specs.ZoneState.{ZoneState}
use Rattle.compactd_c.specs.Keepers.{keeper_of}
use Rattle.compactd_c.proofs.keeping.compactd_keep.Goals as goal

-- a pool has one zone
one_zone : {held : Option ZoneState} {y z : ZoneState} → held ≡ Some y → held ≡ Some z → y ≡ z
one_zone {y = y} is_y is_z = ap (λ (held : Option ZoneState). unwrap_or held y) (sym is_y ∙ is_z)

pub returns-in-Ok-clause-step : goal.returns-in-Ok-clause-step
returns-in-Ok-clause-step c old new was is done =
    let before = keeper_of c.args.order c.args.firsts.now c.args.count.now in
    let after = keeper_of c.args.order c.keep.new.firsts c.keep.new.count in
    record {
      step = c.in-Ok.step;
      kept = subst (λ (z : ZoneState). IsKept before z c.args.most c.in-Ok.step after new) (one_zone c.in-Some.ensures.zone was)
          (subst (λ (z : ZoneState). IsKept before c.in-Some.zone.now c.args.most c.in-Ok.step after z) (one_zone refl is) c.in-Ok.ensures.ok);
      pages = c.moved_by.ensures;
      goes_on = c.has_more.ensures;
    }
