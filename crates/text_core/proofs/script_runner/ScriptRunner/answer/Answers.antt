use Rattle.std.proofs.Common.{◌∷◌, [], ap, refl, ◌∙◌}
use Rattle.text_core.specs.ScriptRunner.{ScriptRunner}
use Rattle.text_core.specs.Script.{command_of_line}
use Rattle.text_core.proofs.Reading.{read_answered, read_lacking, read_stopped}
use Rattle.text_core.proofs.Waiting.{stops_more}
use Rattle.text_core.proofs.script_runner.ScriptRunner.answer.Goals as goal

pub returns-in_default-clause-reads : goal.returns-in_default-clause-reads
returns-in_default-clause-reads g c =
    let begins = ap (λ (s : ScriptRunner _). s.held) c.self.view_is ∙ c.requires.begins in
    rw (← c.self.view_is) (read_lacking g.A.Respond.may g.A.Respond.asks (command_of_line c.self.inside.line c.args.command) _ _ begins _ c.self.inside.line refl refl c.in_default.ensures.memory)

pub returns-in-Err-clause-reads : goal.returns-in-Err-clause-reads
returns-in-Err-clause-reads g c =
    let begins = ap (λ (s : ScriptRunner _). s.held) c.self.view_is ∙ c.requires.begins in
    rw (← c.self.view_is) (read_stopped g.A.Respond.may g.A.Respond.asks (command_of_line c.self.inside.line c.args.command) _ _ begins
    (record { line = c.self.inside.line; reply = c.respond.new.reply } ∷ []) c.respond.new.self c.args.self.now _ c.in-Err.line (c.in-Ok.ensures.ok c.self.inside.line)
    (λ before first owes. stops_more before (record { line = c.self.inside.line; reply = c.respond.new.reply } ∷ []) first _ c.in-Err.line (c.in-Err.ensures.err before first owes)))

pub returns-clause-reads : goal.returns-clause-reads
returns-clause-reads g c =
    let begins = ap (λ (s : ScriptRunner _). s.held) c.self.view_is ∙ c.requires.begins in
    rw (← c.self.view_is) (read_answered g.A.Respond.may g.A.Respond.asks (command_of_line c.self.inside.line c.args.command) _ _ begins
    (record { line = c.self.inside.line; reply = c.respond.new.reply } ∷ []) c.respond.new.self _ _ (c.in-Ok.ensures.ok c.self.inside.line) refl refl c.in_default-post.ensures.ok)
