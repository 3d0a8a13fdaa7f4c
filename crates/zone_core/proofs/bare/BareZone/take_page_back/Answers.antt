use Rattle.std.proofs.Common.{◌∙◌, subst, sym}
use Rattle.state_core.specs.Lending.{page_back}
use Rattle.state_core.specs.Pairs.{HaveMet}
use Rattle.state_core.specs.ZoneState.{ZoneState}
use Rattle.state_core.proofs.Lending.{met_page_returned}
use Rattle.zone_core.specs.ZoneIdentity.{HasIdentity}
use Rattle.zone_core.proofs.WordsAtOnce.{same_shape, shape_stored}
use Rattle.zone_core.proofs.bare.BareZone.take_page_back.Goals as goal

pub returns-clause-met : goal.returns-clause-met
returns-clause-met g c met =
    subst HaveMet (sym c.in_ok-take_page_back.ensures.ok) (met_page_returned c.deref_mut.result.now c.args.client c.args.address c.args.row.words (subst HaveMet (sym (c.deref_mut.ensures.value ∙ c.self.view_is)) met))

pub returns-clause-identity : goal.returns-clause-identity
returns-clause-identity g c =
    let old = c.args.self.now in
    subst (λ (z : ZoneState). HasIdentity old.number old.blocks z) (sym c.in_ok-take_page_back.ensures.ok)
    (shape_stored old.number old.blocks (page_back c.deref_mut.result.now c.args.address) c.args.client c.args.address 0 c.args.row.words (same_shape c.deref_mut.result.now old (c.deref_mut.ensures.value ∙ c.self.view_is)))
