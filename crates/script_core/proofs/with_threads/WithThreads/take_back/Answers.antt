use Rattle.std.proofs.Common.{◌∙◌, ap, sym, subst, Some, Result}
use Rattle.std.proofs.lemmas.Bool.{false≢true}
use Rattle.std.specs.Prelude.{IsOk}
use Rattle.std.specs.Result.{result_err}
use Rattle.state_core.specs.declared.error.ZoneError.{ZoneError}
use Rattle.state_core.specs.declared.information.Audit.{Audit}
use Rattle.state_core.specs.ZoneState.{ZoneState}
use Rattle.script_core.specs.WithThreads.{WithThreads, left_by}
use Rattle.zone_core.specs.Seats.{audit_refusal}
use Rattle.script_core.proofs.Rounds.{left_broken}
use Rattle.script_core.proofs.with_threads.WithThreads.take_back.Goals as goal

pub returns-in-Ok-clause-left : goal.returns-in-Ok-clause-left
returns-in-Ok-clause-left g c =
    let same = c.audit.ensures.same in
    c.keep.ensures ∙ (λ i. left_by c.args.self.now.single.places c.args.self.now.client (same.0 i) (same.1 i) (same.2 i) (audit_refusal (same.0 i) (same.2 i)))

pub returns-in-Ok-clause-exact : goal.returns-in-Ok-clause-exact
returns-in-Ok-clause-exact g c = λ whole settled. sym c.audit.ensures.refused ∙ ap result_err c.in-Ok.is

pub returns-in-Err-clause-left : goal.returns-in-Err-clause-left
returns-in-Err-clause-left g c =
    left_broken c.args.self.now.single.places c.args.self.now.client c.args.zone c.args.seats.scan c.args.seats.ends _ _ _
    (sym c.audit.ensures.refused ∙ ap result_err c.in-Err.is)
    (ap (λ (t : WithThreads). t.single.places) c.self.view_is)
    (ap (λ (t : WithThreads). t.single.world) c.self.view_is ∙ c.requires.given)
    (ap Some (c.number-number.ensures ∙ ap (λ (z : ZoneState). z.number) c.deref.ensures))
    (ap (λ (t : WithThreads). t.client) c.self.view_is)

pub returns-in-Err-clause-exact : goal.returns-in-Err-clause-exact
returns-in-Err-clause-exact g c = λ whole settled.
    let O : Result Audit ZoneError → Type 0 = λ r. IsOk r in
    absurd (false≢true (subst O c.in-Err.is ((c.audit.ensures.exact whole).1 settled)))
