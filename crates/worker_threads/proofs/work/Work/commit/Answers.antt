use Rattle.std.proofs.Common.{◌≡◌, subst, true}
use Rattle.std.specs.Prelude.{OnOk, Result, Ok, Err}
use Rattle.state_core.specs.Pairs.{HaveMet}
use Rattle.state_core.specs.Valid.{IsValidZone}
use Rattle.state_core.specs.ZoneState.{ZoneState, is_quiet}
use Rattle.state_core.specs.LentMoves.{LentMove}
use Rattle.fewest_core.specs.Sending.{sent_committed}
use Rattle.worker_threads.proofs.Steps.{loud_ended}
use Rattle.worker_threads.proofs.work.Work.commit.Goals as goal

never_quiet : {A E : Type 0} (z next : ZoneState) (l : LentMove) (result : Result A E) → OnOk result (next ≡ sent_committed z l) → OnOk result (IsValidZone z → is_quiet z ≡ true → HaveMet z → is_quiet next ≡ true → HaveMet next)
never_quiet z next l (Err error) step = tt
never_quiet z next l (Ok end) step = λ law before met quiet. absurd (loud_ended z law l (subst (λ (w : ZoneState). is_quiet w ≡ true) step quiet))

pub returns-in-Empty-clause-met : goal.returns-in-Empty-clause-met
returns-in-Empty-clause-met g c = never_quiet c.args.zone.now c.commit_and_claim.new.self c.args.copied c.commit_and_claim.result c.commit_and_claim.ensures.ok

-- in a round, whether it is quiet afterwards isn't asked
unasked : {A E : Type 0} (z next : ZoneState) (result : Result A E) → OnOk result (is_quiet z ≡ true → HaveMet z → HaveMet next) → OnOk result (IsValidZone z → is_quiet z ≡ true → HaveMet z → is_quiet next ≡ true → HaveMet next)
unasked z next (Err error) met = tt
unasked z next (Ok end) met = λ law before have_met quiet. met before have_met

pub returns-in-Compact-clause-met : goal.returns-in-Compact-clause-met
returns-in-Compact-clause-met g c = unasked c.args.zone.now c.commit_lent.new.self c.commit_lent.result c.commit_lent.ensures.met
