use Rattle.std.proofs.Common.{subst}
use Rattle.std.specs.Prelude.{OnOk}
use Rattle.state_core.specs.ZoneState.{ZoneState}
use Rattle.worker_threads.proofs.ByHand.{exact_round, stopped_round}
use Rattle.worker_threads.proofs.alone.compact_alone.Goals as goal
use Rattle.zone_core.specs.Alone.{IsAtRest}

pub returns-clause-exact : goal.returns-clause-exact
returns-clause-exact g c =
    let did = c.work_alone.ensures in
    exact_round g.K.StartIdentity.start c.work_alone.result.0 c.work_alone.result.1 did.valid (subst (λ (z : ZoneState). OnOk c.work_alone.result.1 (IsAtRest z)) c.requires.start did.rested) did.first

pub returns-clause-stopped : goal.returns-clause-stopped
returns-clause-stopped g c =
    let did = c.work_alone.ensures in
    stopped_round g.K.StartIdentity.start c.work_alone.result.0 c.work_alone.result.1 did.valid (subst (λ (z : ZoneState). OnOk c.work_alone.result.1 (IsAtRest z)) c.requires.start did.rested) did.first
