use Rattle.std.proofs.Common.{◌∙◌, length, subst, sym}
use Rattle.state_core.specs.Pairs.{HaveMet}
use Rattle.state_core.specs.ZoneState.{ZoneState}
use Rattle.state_core.proofs.Bulk.{met_loaded_all}
use Rattle.zone_core.specs.ZoneIdentity.{HasIdentity}
use Rattle.zone_core.proofs.WordsAtOnce.{same_shape, shape_loaded}
use Rattle.zone_core.proofs.bare.BareZone.read.Goals as goal

pub returns-clause-met : goal.returns-clause-met
returns-clause-met g c met =
    subst HaveMet (sym c.read_words.ensures.step)
    (met_loaded_all c.deref_mut.result.now c.args.client c.args.address c.args.from (length c.args.values.now) (subst HaveMet (sym (c.deref_mut.ensures.value ∙ c.self.view_is)) met))

pub returns-clause-identity : goal.returns-clause-identity
returns-clause-identity g c =
    let old = c.args.self.now in
    subst (λ (z : ZoneState). HasIdentity old.number old.blocks z) (sym c.read_words.ensures.step)
    (shape_loaded old.number old.blocks c.deref_mut.result.now c.args.client c.args.address c.args.from (length c.args.values.now) (same_shape c.deref_mut.result.now old (c.deref_mut.ensures.value ∙ c.self.view_is)))
