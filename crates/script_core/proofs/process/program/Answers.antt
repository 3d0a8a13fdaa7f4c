use Rattle.std.proofs.Common.{◌∙◌, ℕ, arith, inl, subst, sym}
use Rattle.std.specs.Prelude.{IfSome}
use Rattle.std.proofs.lemmas.Result.{IfOk-weaker}
use Rattle.clap.specs.Words.{kind_of}
use Rattle.script_core.specs.Runs.{IsAnsweredWhole}
use Rattle.script_core.proofs.Endings.{helped, no_help, one_lacks_memory, refused, two_is_no_help, two_refuses}
use Rattle.script_core.proofs.process.program.Goals as goal

pub returns-in-Err-clause-refused : goal.returns-in-Err-clause-refused
returns-in-Err-clause-refused g c =
    IfOk-weaker c.args.words _ _ (λ args kinds some none. refused (kind_of c.in-Err.error) c.answer.result _ c.answer.ensures.status (no_help _ c.in-Err.error kinds none) c.answer.ensures.memory)
    c.in-Err.ensures.refused

pub returns-in-Err-clause-refused_only : goal.returns-in-Err-clause-refused_only
returns-in-Err-clause-refused_only g c =
    IfOk-weaker c.args.words _ _ (λ args kinds two. two_refuses _ c.in-Err.error kinds (sym c.answer.ensures.status ∙ two)) c.in-Err.ensures.refused

pub returns-in-Err-clause-help : goal.returns-in-Err-clause-help
returns-in-Err-clause-help g c =
    IfOk-weaker c.args.words _ _ (λ args kinds some all. helped _ c.in-Err.error c.answer.result _ c.answer.ensures.status kinds all c.answer.ensures.memory) c.in-Err.ensures.refused

pub returns-in-Err-clause-quiet : goal.returns-in-Err-clause-quiet
returns-in-Err-clause-quiet g c = λ two. c.answer.ensures.quiet (two_is_no_help (kind_of c.in-Err.error) (sym c.answer.ensures.status ∙ two))

pub returns-in-Err-clause-fault : goal.returns-in-Err-clause-fault
returns-in-Err-clause-fault g c =
    IfOk-weaker c.args.words _ _ (λ args kinds one. inl (c.answer.ensures.memory (one_lacks_memory (kind_of c.in-Err.error) (sym c.answer.ensures.status ∙ one)))) c.in-Err.ensures.refused

-- words that clap gave options for aren't refused, and the status of a run is at most 1
pub returns-in-Ok-clause-refused : goal.returns-in-Ok-clause-refused
returns-in-Ok-clause-refused g c = IfOk-weaker c.args.words _ _ (λ args none some ask. absurd (some none)) c.in-Ok.ensures.refused

pub returns-in-Ok-clause-refused_only : goal.returns-in-Ok-clause-refused_only
returns-in-Ok-clause-refused_only g c = IfOk-weaker c.args.words _ _ (λ args none two. absurd (omega (arith, two, c.play.ensures.status))) c.in-Ok.ensures.refused

pub returns-in-Ok-clause-help : goal.returns-in-Ok-clause-help
returns-in-Ok-clause-help g c = IfOk-weaker c.args.words _ _ (λ args none some ask. absurd (some none)) c.in-Ok.ensures.refused

pub returns-in-Ok-clause-whole : goal.returns-in-Ok-clause-whole
returns-in-Ok-clause-whole g c =
    IfOk-weaker c.args.words _ _ (λ args given none done. subst (λ (places : ℕ). IfSome (g.R.Read.remaining c.args.reader.now) (λ input.
    IsAnsweredWhole places input (g.W.Write.contents c.args.writer.now) (g.W.Write.contents c.play.new.writer))) given.journal (c.play.ensures.whole done))
    c.in-Ok.ensures.ok
