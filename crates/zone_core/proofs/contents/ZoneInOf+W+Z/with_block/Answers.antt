use Rattle.zone_core.proofs.contents.ZoneInOf+W+Z.with_block.Goals as goal

pub returns-clause-met : goal.returns-clause-met
returns-clause-met g c = rw (← c.self.view_is) c.with_block.ensures.met
