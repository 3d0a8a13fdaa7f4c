use Rattle.std.proofs.Common.{◌∙◌, subst, sym}
use Rattle.state_core.specs.Pairs.{HaveMet}
use Rattle.state_core.proofs.StaysMet.{met_loaded}
use Rattle.zone_core.proofs.bare.BareZone.load.Goals as goal

pub returns-clause-met : goal.returns-clause-met
returns-clause-met g c met = subst HaveMet (sym c.read.ensures.step) (met_loaded c.deref_mut.result.now c.args.client c.args.address c.args.word (subst HaveMet (sym (c.deref_mut.ensures.value ∙ c.self.view_is)) met))
