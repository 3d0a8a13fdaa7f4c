use Rattle.std.proofs.Common.{◌∙◌, subst, sym}
use Rattle.state_core.specs.Pairs.{HaveMet}
use Rattle.state_core.proofs.StaysMet.{met_stored}
use Rattle.zone_core.proofs.bare.BareZone.store.Goals as goal

pub returns-clause-met : goal.returns-clause-met
returns-clause-met g c met = subst HaveMet (sym c.write.ensures.step) (met_stored c.deref_mut.result.now c.args.client c.args.address c.args.word c.args.value (subst HaveMet (sym (c.deref_mut.ensures.value ∙ c.self.view_is)) met))
