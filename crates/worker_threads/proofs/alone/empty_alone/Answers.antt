use Rattle.std.proofs.Common.{refl, subst}
use Rattle.std.specs.Prelude.{OnOk}
use Rattle.state_core.specs.ZoneState.{ZoneState, frame_count}
use Rattle.worker_threads.specs.Runs.{AreBlocks}
use Rattle.worker_threads.proofs.ByHand.{exact_emptying}
use Rattle.worker_threads.proofs.alone.empty_alone.Goals as goal
use Rattle.zone_core.specs.Alone.{IsAtRest}

pub returns-clause-exact : goal.returns-clause-exact
returns-clause-exact g c =
    let did = c.work_alone.ensures in
    let blocks = subst (λ (z : ZoneState). AreBlocks (frame_count z) g.K.RunsIdentity.runs) c.requires.start (subst (AreBlocks (frame_count c.args.zone)) c.requires.runs (c.if-not-are_blocks.ensures.0 refl)) in
    exact_emptying g.K.StartIdentity.start c.work_alone.result.0 c.work_alone.result.1 did.valid (subst (λ (z : ZoneState). OnOk c.work_alone.result.1 (IsAtRest z)) c.requires.start did.rested) g.K.RunsIdentity.runs blocks did.first
