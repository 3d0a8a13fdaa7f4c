use Rattle.std.proofs.Common.{◌≡◌, ◌++◌, ◌∷◌, [], ◌<◌, ◌≤◌, ℕ, List, Option, length, true, false, None, Some, Result, Ok, Err, ap, sym, refl, ◌∙◌, arith}
use Rattle.std.specs.Prelude.{nat_lt, if◌then◌else◌}
use Rattle.std.proofs.lemmas.Bool.Decides.{nat_tests}
use Rattle.state_core.specs.declared.call.ZoneCall.{ZoneCall}
use Rattle.text_core.specs.declared.command.BlockLine.{BlockLine}
use Rattle.text_core.specs.declared.command.BlockLine.TheVariants.{Client, End}
use Rattle.text_core.specs.declared.error.ScriptError.TheVariants as of_line
use Rattle.text_core.specs.declared.profile.Profile.{Profile}
use Rattle.text_core.specs.declared.fault.Fault.TheVariants.{Syntax}
use Rattle.text_core.specs.declared.fault.RunError.{RunError}
use Rattle.text_core.specs.Line.{line_within}
use Rattle.text_core.specs.ScriptRunner.{ScriptRunner, ReadsLine, in_block}
use Rattle.text_core.specs.Script.{Block, ClientLine, client_comes, command_in_block, comes_within, line_comes, within}
use Rattle.text_core.proofs.Reading.{read_on, read_wrong}
use Rattle.text_core.proofs.Variants.{both_err, both_ok, by_result}
use Rattle.text_core.proofs.script_runner.ScriptRunner.take_within.Goals as goal

-- a client line where the block may have one more, and where it may not
client_taken : (profile : Profile) (block : Block) (client : ClientLine) → length block.clients < 1000
    → client_comes profile block client ≡ Ok (record { ended = None; reading = within profile (record block { clients = block.clients ++ client ∷ [] }) })
client_taken profile block client few =
    let test : nat_lt (length block.clients) 1000 ≡ true = grind (arith, nat_tests) in
    ap (λ t. if t then Ok (record { ended = None; reading = within profile (record block { clients = block.clients ++ client ∷ [] }) }) else Err Syntax) test

client_refused : (profile : Profile) (block : Block) (client : ClientLine) → 1000 ≤ length block.clients → client_comes profile block client ≡ Err Syntax
client_refused profile block client many =
    let test : nat_lt (length block.clients) 1000 ≡ false = grind (arith, nat_tests) in
    ap (λ t. if t then Ok (record { ended = None; reading = within profile (record block { clients = block.clients ++ client ∷ [] }) }) else Err Syntax) test

module _ (profile : Profile) (block : Block) (n : ℕ) (text : List ℕ) where
  ends_block : (line : BlockLine) (o : Option Block) → o ≡ None → line_within block.zone text ≡ Ok (Some line) → line ≡ End
      → line_comes (within profile block) n text ≡ Ok (record { ended = Some (command_in_block block); reading = record { profile = profile; block = o } })
  ends_block line o outside says is =
      ap (comes_within profile block n) (says ∙ ap (λ (l : BlockLine). Ok (Some l)) is)
      ∙ ap (λ o. Ok (record { ended = Some (command_in_block block); reading = record { profile = profile; block = o } })) (sym outside)

  is_of_client : (line : BlockLine) (call : Option (ZoneCall 8)) → line_within block.zone text ≡ Ok (Some line) → line ≡ Client call
      → line_comes (within profile block) n text ≡ client_comes profile block (record { line = n; call = call })
  is_of_client line call says is = ap (comes_within profile block n) (says ∙ ap (λ (l : BlockLine). Ok (Some l)) is)

pub returns-in-Ok-Some-End-clause-reads : goal.returns-in-Ok-Some-End-clause-reads
returns-in-Ok-Some-End-clause-reads g c =
    let s = c.args.self.now in
    let block = c.args.block in
    let text = c.args.text.now in
    let says : line_within block.zone text ≡ Ok (Some c.in-Ok-Some-End.field-0-0) = ap (λ (z : ℕ). line_within z text) (sym c.zone.ensures) ∙ sym c.in-Ok-Some-End.ensures ∙ ap Ok c.in-Ok-Some-End.field-0-is in
    c.answer_block.ensures.reads (within s.reading.profile block) text
    (ends_block s.reading.profile block s.line text c.in-Ok-Some-End.field-0-0 s.reading.block c.requires.outside says c.in-Ok-Some-End.field-0-0-is)

pub returns-in-Ok-Some-Client-clause-reads : goal.returns-in-Ok-Some-Client-clause-reads
returns-in-Ok-Some-Client-clause-reads g c =
    let now = g.W.Write.contents c.args.writer.now in
    let s = c.args.self.now in
    let block = c.args.block in
    let text = c.args.text.now in
    let says : line_within block.zone text ≡ Ok (Some c.in-Ok-Some-Client.field-0-0) = ap (λ (z : ℕ). line_within z text) (sym c.zone.ensures) ∙ sym c.in-Ok-Some-Client.ensures ∙ ap Ok c.in-Ok-Some-Client.field-0-is in
    let client : ClientLine = record { line = s.line; call = c.in-Ok-Some-Client.call } in
    let here = is_of_client s.reading.profile block s.line text c.in-Ok-Some-Client.field-0-0 c.in-Ok-Some-Client.call says c.in-Ok-Some-Client.field-0-0-is in
    let F : Result (Unit {0}) RunError → Type 0 = λ r. ReadsLine g.A.Respond.may g.A.Respond.asks (in_block block s) c.note.new.self text now now r in
    by_result F c.note.result (both_ok c.note.result _ _ c.note.ensures.ok c.note.ensures.few) (both_err c.note.result _ _ c.note.ensures.same c.note.ensures.err)
    (λ _ both. rw both.0 (read_on g.A.Respond.may g.A.Respond.asks (in_block block s) text now c.requires.begins _ (here ∙ client_taken s.reading.profile block client both.1)))
    (λ e both. rw both.1.0 (read_wrong g.A.Respond.may g.A.Respond.asks (in_block block s) text now c.requires.begins c.note.new.self of_line.Syntax Syntax (ap (λ (t : ScriptRunner _). t.box) both.0) refl
    (here ∙ client_refused s.reading.profile block client both.1.1)))

pub returns-in-Ok-None-clause-reads : goal.returns-in-Ok-None-clause-reads
returns-in-Ok-None-clause-reads g c =
    let block = c.args.block in
    let text = c.args.text.now in
    let begins = ap (λ (s : ScriptRunner _). s.held) c.self.view_is ∙ c.requires.begins in
    let says : line_within block.zone text ≡ Ok None = ap (λ (z : ℕ). line_within z text) (sym c.zone.ensures) ∙ sym c.in-Ok-None.ensures ∙ ap Ok c.in-Ok-None.field-0-is in
    rw (← c.self.view_is) (read_on g.A.Respond.may g.A.Respond.asks _ text _ begins (within c.self.inside.profile block) (ap (comes_within c.self.inside.profile block c.self.inside.line) says))

pub returns-in-Err-clause-reads : goal.returns-in-Err-clause-reads
returns-in-Err-clause-reads g c =
    let block = c.args.block in
    let text = c.args.text.now in
    let begins = ap (λ (s : ScriptRunner _). s.held) c.self.view_is ∙ c.requires.begins in
    let says : line_within block.zone text ≡ Err c.in-Err.error = ap (λ (z : ℕ). line_within z text) (sym c.zone.ensures) ∙ sym c.in-Err.ensures in
    rw (← c.self.view_is) (read_wrong g.A.Respond.may g.A.Respond.asks _ text _ begins _ c.in-Err.error c.from.result refl c.from.ensures (ap (comes_within c.self.inside.profile block c.self.inside.line) says))
