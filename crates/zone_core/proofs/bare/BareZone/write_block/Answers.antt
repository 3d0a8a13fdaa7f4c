use Rattle.std.proofs.Common.{◌∙◌, subst, sym}
use Rattle.state_core.specs.Pairs.{HaveMet}
use Rattle.state_core.proofs.Contents.{met_contents_written}
use Rattle.zone_core.proofs.bare.BareZone.write_block.Goals as goal

pub returns-clause-met : goal.returns-clause-met
returns-clause-met g c met =
    subst HaveMet (sym c.write_block.ensures.step)
    (met_contents_written c.deref_mut.result.now c.args.first c.args.from c.args.values.now (subst HaveMet (sym (c.deref_mut.ensures.value ∙ c.self.view_is)) met))
