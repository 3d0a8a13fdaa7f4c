use Rattle.std.proofs.Common.{◌∙◌, List, ◌∷◌, sym, ap}
use Rattle.text_core.specs.declared.token.Token.{Token}
use Rattle.text_core.specs.declared.token.Token.TheVariants.{Number}
use Rattle.text_core.specs.Grammar.{command_of}
use Rattle.text_core.specs.Token.{tokens}
use Rattle.text_core.proofs.Rows.{command_of-During, command_of-other}
use Rattle.text_core.proofs.grammar.command.Goals as goal

pub returns-in-During : goal.returns-in-During
returns-in-During c =
    let profile = c.args.profile in
    let zone = c.in_ok-number.number in
    let arguments = tokens c.in_ok-number.arguments.now in
    let line = c.in_ok-keyword.ensures.token ∙ ap (λ (rest : List Token). c.in_ok-keyword.keyword ∷ rest) c.in_ok-number.ensures in
    c.during.ensures
    ∙ sym (ap (command_of profile) line ∙ ap (λ (keyword : Token). command_of profile (keyword ∷ Number zone ∷ arguments)) c.in-During.is
    ∙ command_of-During profile zone arguments)

pub returns-in_default : goal.returns-in_default
returns-in_default c =
    let profile = c.args.profile in
    let keyword = c.in_ok-keyword.keyword in
    let zone = c.in_ok-number.number in
    let arguments = tokens c.in_ok-number.arguments.now in
    let line = c.in_ok-keyword.ensures.token ∙ ap (λ (rest : List Token). keyword ∷ rest) c.in_ok-number.ensures in
    c.row_in.ensures ∙ sym (ap (command_of profile) line ∙ command_of-other profile keyword zone arguments c.in_default.not-During)
