use Rattle.std.proofs.Common.{◌∙◌, subst, sym}
use Rattle.state_core.specs.Pairs.{HaveMet}
use Rattle.state_core.proofs.Lending.{met_page_lent}
use Rattle.zone_core.proofs.bare.BareZone.lend_page.Goals as goal

pub returns-clause-met : goal.returns-clause-met
returns-clause-met g c met =
    subst HaveMet (sym c.in_ok-row.ensures.ok) (met_page_lent c.deref_mut.result.now c.args.address (subst HaveMet (sym (c.deref_mut.ensures.value ∙ c.self.view_is)) met))
