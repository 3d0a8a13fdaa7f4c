use Rattle.std.proofs.Common.{◌≡◌, [], ℕ, List, Option, None, Some, Result, Ok, refl, ap, sym, subst, ◌∙◌}
use Rattle.text_core.specs.declared.command.Command.{Command}
use Rattle.text_core.specs.declared.command.Command.TheVariants.{During}
use Rattle.text_core.specs.declared.error.ScriptError.{ScriptError}
use Rattle.text_core.specs.declared.profile.Profile.{Profile}
use Rattle.text_core.specs.declared.fault.RunError.{RunError}
use Rattle.text_core.specs.Line.{line_of}
use Rattle.text_core.specs.Profile.{profile_told}
use Rattle.text_core.specs.ScriptRunner.{ScriptRunner, ReadsLine}
use Rattle.text_core.specs.Script.{BeginsBlock, Block, Reading, by, command_comes, comes_outside, line_comes, within}
use Rattle.text_core.proofs.Lines.{outside-line}
use Rattle.text_core.proofs.Reading.{read_on, read_unbegun, read_wrong}
use Rattle.text_core.proofs.Variants.{both_err, by_result}
use Rattle.text_core.proofs.script_runner.ScriptRunner.take_line.Goals as goal

-- a command that doesn't begin a block is whole
command_whole : (profile : Profile) (n : ℕ) (command : Command) → ((zone : ℕ) → command ≡ During zone → ⊥) → command_comes profile n command ≡ record { ended = Some (record { line = n; command = command; clients = [] }); reading = by profile }
command_whole profile n (During zone) other = absurd (other zone refl)
command_whole profile n _ other = refl

module _ (q : Reading) (n : ℕ) (text : List ℕ) (command : Command) (told : Profile) (outside : q.block ≡ None)
    (says : line_of q.profile text ≡ Ok (Some command)) (after : told ≡ profile_told command q.profile) where
  comes_to : line_comes q n text ≡ Ok (command_comes told n command)
  comes_to = outside-line q n text outside ∙ ap (comes_outside q.profile n) says ∙ ap (λ p. Ok (command_comes p n command)) (sym after)

  begins_block : (zone : ℕ) → command ≡ During zone → line_comes q n text ≡ Ok (record { ended = None; reading = within told (record { line = n; zone = zone; clients = [] }) })
  begins_block zone is = comes_to ∙ ap (λ k. Ok (command_comes told n k)) is

  ends_command : (o : Option Block) → o ≡ None → ((zone : ℕ) → command ≡ During zone → ⊥) → line_comes q n text ≡ Ok (record { ended = Some (record { line = n; command = command; clients = [] }); reading = record { profile = told; block = o } })
  ends_command o none other =
      comes_to ∙ ap Ok (command_whole told n command other)
      ∙ ap (λ o. Ok (record { ended = Some (record { line = n; command = command; clients = [] }); reading = record { profile = told; block = o } })) (sym none)

pub returns-in-Err-clause-reads : goal.returns-in-Err-clause-reads
returns-in-Err-clause-reads g c =
    let q : Reading = record { profile = c.self.inside.profile; block = c.self.inside.block } in
    let begins = ap (λ (s : ScriptRunner _). s.held) c.self.view_is ∙ c.requires.begins in
    let outside = sym c.take.ensures.value ∙ c.in_default.is in
    let here = outside-line q c.self.inside.line c.args.text.now outside ∙ ap (comes_outside q.profile c.self.inside.line) (sym c.in-Err.ensures) in
    rw (← c.self.view_is) (read_wrong g.A.Respond.may g.A.Respond.asks _ c.args.text.now _ begins _ c.in-Err.error c.from.result refl c.from.ensures here)

pub returns-in-Ok-None-clause-reads : goal.returns-in-Ok-None-clause-reads
returns-in-Ok-None-clause-reads g c =
    let q : Reading = record { profile = c.self.inside.profile; block = c.self.inside.block } in
    let begins = ap (λ (s : ScriptRunner _). s.held) c.self.view_is ∙ c.requires.begins in
    let outside = sym c.take.ensures.value ∙ c.in_default.is in
    let says : line_of q.profile c.args.text.now ≡ Ok None = sym c.in-Ok-None.ensures ∙ ap Ok c.in-Ok-None.field-0-is in
    let here = outside-line q c.self.inside.line c.args.text.now outside ∙ ap (comes_outside q.profile c.self.inside.line) says
    ∙ ap (λ o. Ok (record { ended = None; reading = record { profile = q.profile; block = o } })) (sym c.take.ensures.after) in
    rw (← c.self.view_is) (read_on g.A.Respond.may g.A.Respond.asks _ c.args.text.now _ begins (record { profile = q.profile; block = c.take.new.self }) here)

pub returns-in-During-clause-reads : goal.returns-in-During-clause-reads
returns-in-During-clause-reads g c =
    let now = g.W.Write.contents c.args.writer.now in
    let text = c.args.text.now in
    let q : Reading = record { profile = c.self.inside.profile; block = c.self.inside.block } in
    let begins = ap (λ (s : ScriptRunner _). s.held) c.self.view_is ∙ c.requires.begins in
    let outside = sym c.take.ensures.value ∙ c.in_default.is in
    let says : line_of q.profile text ≡ Ok (Some c.in-Ok-Some.command) = sym c.in-Ok-Some.ensures ∙ ap Ok c.in-Ok-Some.field-0-is in
    let F : Result (Unit {0}) RunError → Type 0 = λ r. ReadsLine g.A.Respond.may g.A.Respond.asks c.args.self.now c.begin.new.self text now now r in
    let D : Result _ ScriptError → Type 0 = λ r. BeginsBlock r in
    by_result F c.begin.result c.begin.ensures.ok (both_err c.begin.result _ _ c.begin.ensures.same c.begin.ensures.err)
    (λ _ is. rw (is, ← c.self.view_is) (read_on g.A.Respond.may g.A.Respond.asks _ text now begins _
    (begins_block q c.self.inside.line text c.in-Ok-Some.command c.after-self-inside.result outside says c.after-self-inside.ensures c.in-During.zone c.in-During.is)))
    (λ e both. rw (both.1, ← c.self.view_is) (read_unbegun g.A.Respond.may g.A.Respond.asks _ text now begins c.begin.new.self (ap (λ (t : ScriptRunner _). t.box) both.0) outside
    (subst D (sym (says ∙ ap (λ (k : Command). Ok (Some k)) c.in-During.is)) tt)))

pub returns-in-Some-clause-reads : goal.returns-in-Some-clause-reads
returns-in-Some-clause-reads g c =
    let within : c.self.inside.block ≡ Some c.in-Some.block = sym c.take.ensures.value ∙ c.in-Some.is in
    rw (← c.self.view_is, within) c.take_within.ensures.reads

pub returns-in_default-command-clause-reads : goal.returns-in_default-command-clause-reads
returns-in_default-command-clause-reads g c =
    let q : Reading = record { profile = c.self.inside.profile; block = c.self.inside.block } in
    let outside = sym c.take.ensures.value ∙ c.in_default.is in
    let says : line_of q.profile c.args.text.now ≡ Ok (Some c.in-Ok-Some.command) = sym c.in-Ok-Some.ensures ∙ ap Ok c.in-Ok-Some.field-0-is in
    rw (← c.self.view_is) (c.answer.ensures.reads q c.args.text.now
    (ends_command q c.self.inside.line c.args.text.now c.in-Ok-Some.command c.after-self-inside.result outside says c.after-self-inside.ensures c.take.new.self c.take.ensures.after c.in_default-command.not-During))
