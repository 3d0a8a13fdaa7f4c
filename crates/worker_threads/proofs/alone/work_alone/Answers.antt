use Rattle.std.proofs.Common.{◌∙◌, ap, subst, sym}
use Rattle.std.specs.Prelude.{IfOk, Result}
use Rattle.std.specs.Result.{result_and}
use Rattle.state_core.specs.Valid.{IsValidZone}
use Rattle.worker_threads.specs.Working.{IsOnlyRound}
use Rattle.worker_threads.specs.declared.error.WorkError.{WorkError}
use Rattle.worker_threads.specs.declared.round.Round.{Round}
use Rattle.worker_threads.proofs.ByHand.{at_rest, if_done, on_done}
use Rattle.worker_threads.proofs.alone.work_alone.Goals as goal
use Rattle.zone_core.specs.Alone.{IsAtRest}

pub returns-clause-rested : goal.returns-clause-rested
returns-clause-rested g c = on_done (IsAtRest c.args.zone) _ (at_rest c.args.zone c.audit.result c.in-Ok.ensures.valid c.audit.ensures.ok (sym c.is_err.ensures.value ∙ c.if-is_err.false))

pub returns-clause-first : goal.returns-clause-first
returns-clause-first g c =
    let only = IsOnlyRound g.A.Keeping.keeps g.A.Keeping.stops_at c.into_first-zone.result.0 in
    subst (λ (r : Result Round WorkError). IfOk r only) (sym (c.and.ensures ∙ ap (result_and c.run-done.result) c.ok_or.ensures.value)) (if_done only c.run-done.result c.into_first-zone.result.1 c.into_first-zone.ensures.first)

pub returns-clause-valid : goal.returns-clause-valid
returns-clause-valid g c = on_done (IsValidZone c.into_first-zone.result.0) _ c.into_first-zone.ensures.valid
