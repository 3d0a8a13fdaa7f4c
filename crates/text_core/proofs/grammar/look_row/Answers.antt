use Rattle.std.proofs.Common.{◌≡◌, ◌∙◌, Some, ap, rules, sym}
use Rattle.std.specs.Prelude.{option_map}
use Rattle.text_core.specs.declared.command.Call.TheVariants as call
use Rattle.text_core.specs.declared.token.Token.TheVariants as token
use Rattle.text_core.specs.Grammar.{address_of, call_on, row_of}
use Rattle.text_core.specs.Token.{tokens}
use Rattle.text_core.proofs.Rows.{two_are}
use Rattle.text_core.proofs.grammar.look_row.Goals as goal

pub returns : goal.returns
returns c =
    let zone = c.args.zone in
    let look : c.map.result ≡ option_map call.Look (address_of c.in_ok-s.s c.in_ok-s.v) = search rules in
    ap Some (c.on.ensures ∙ ap (call_on zone) look)
    ∙ ap (row_of token.Look zone) (sym (two_are (tokens c.args.arguments.now) c.in_ok-s.s c.in_ok-s.v c.in_ok-s.ensures))
