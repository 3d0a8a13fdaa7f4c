use Rattle.std.proofs.Common.{◌∙◌, subst, sym}
use Rattle.state_core.specs.Pairs.{HaveMet}
use Rattle.state_core.proofs.Lending.{met_block_returned}
use Rattle.zone_core.proofs.bare.BareZone.take_block_back.Goals as goal

pub returns-clause-met : goal.returns-clause-met
returns-clause-met g c met =
    subst HaveMet (sym c.in_ok-take_block_back.ensures.ok) (met_block_returned c.deref_mut.result.now c.args.first c.args.row.words (subst HaveMet (sym (c.deref_mut.ensures.value ∙ c.self.view_is)) met))
