use Rattle.std.proofs.Common.{◌≡◌, ◌++◌, ◌∷◌, [], ap, subst, ◌∙◌}
use Rattle.std.proofs.lemmas.Result.{err_from_is_err_and}
use Rattle.text_core.specs.ScriptRunner.{ReadsLine, ScriptRunner}
use Rattle.text_core.proofs.Reading.{reads_more, taken_line}
use Rattle.text_core.proofs.script_runner.ScriptRunner.end_line.Goals as goal

pub returns-in_err-hold-clause-reads : goal.returns-in_err-hold-clause-reads
returns-in_err-hold-clause-reads g c =
    let p = err_from_is_err_and c.from_residual.result c.from_residual.ensures.1 in
    rw (p.1, p.2) (reads_more g.A.Respond.may g.A.Respond.asks c.args.self.now c.hold.new.self c.args.text.now (10 ∷ []) _ _ c.in_err-hold.field-0.0 (c.in_err-hold.ensures.reads _))

pub returns-clause-reads : goal.returns-clause-reads
returns-clause-reads g c =
    let s = c.args.self.now in
    let line = c.deref.result.now in
    let none = c.replace-line.new.dest.items in
    let is = c.self-2.view_is ∙ c.in_ok-hold.ensures.ok in
    let whole : line ≡ s.held ++ c.args.text.now =
    c.deref.ensures.0 ∙ ap (λ h. h.items) c.replace-line.ensures.value ∙ ap (λ (t : ScriptRunner _). t.held) is in
    let empty = ap (λ h. h.items) c.replace-line.ensures.after ∙ c.new.ensures in
    let R : ScriptRunner _ → Type 0 = λ t. ReadsLine g.A.Respond.may g.A.Respond.asks t c.take_line-2.new.self line (g.W.Write.contents c.args.writer.now) (g.W.Write.contents c.take_line-2.new.writer) c.take_line-2.result in
    taken_line g.A.Respond.may g.A.Respond.asks s c.take_line-2.new.self c.args.text.now none line _ _ c.take_line-2.result c.requires.unbroken empty whole
    (subst R (ap (λ (t : ScriptRunner _). record t { held = none }) is) c.take_line-2.ensures.reads)
