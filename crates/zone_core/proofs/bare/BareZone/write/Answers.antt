use Rattle.std.proofs.Common.{◌∙◌, subst, sym}
use Rattle.state_core.specs.Pairs.{HaveMet}
use Rattle.state_core.specs.ZoneState.{ZoneState}
use Rattle.state_core.proofs.Bulk.{met_stored_all}
use Rattle.zone_core.specs.ZoneIdentity.{HasIdentity}
use Rattle.zone_core.proofs.WordsAtOnce.{same_shape, shape_stored}
use Rattle.zone_core.proofs.bare.BareZone.write.Goals as goal

pub returns-clause-met : goal.returns-clause-met
returns-clause-met g c met =
    subst HaveMet (sym c.write_words.ensures.step)
    (met_stored_all c.deref_mut.result.now c.args.client c.args.address c.args.from c.args.values.now (subst HaveMet (sym (c.deref_mut.ensures.value ∙ c.self.view_is)) met))

pub returns-clause-identity : goal.returns-clause-identity
returns-clause-identity g c =
    let old = c.args.self.now in
    subst (λ (z : ZoneState). HasIdentity old.number old.blocks z) (sym c.write_words.ensures.step)
    (shape_stored old.number old.blocks c.deref_mut.result.now c.args.client c.args.address c.args.from c.args.values.now (same_shape c.deref_mut.result.now old (c.deref_mut.ensures.value ∙ c.self.view_is)))
