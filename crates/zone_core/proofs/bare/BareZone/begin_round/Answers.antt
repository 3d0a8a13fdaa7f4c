use Rattle.std.proofs.Common.{◌∙◌, ap}
use Rattle.state_core.specs.Pairs.{is_calm}
use Rattle.state_core.specs.ZoneState.{is_quiet}
use Rattle.state_core.proofs.Quiet.{quiet_is_calm}
use Rattle.zone_core.proofs.bare.BareZone.begin_round.Goals as goal

pub returns-clause-quiet : goal.returns-clause-quiet
returns-clause-quiet g c = ap is_quiet c.begin_round.ensures.step ∙ quiet_is_calm c.deref_mut.result.now ∙ ap is_calm (c.deref_mut.ensures.value ∙ c.self.view_is)
