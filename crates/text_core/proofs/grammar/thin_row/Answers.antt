use Rattle.std.proofs.Common.{◌≡◌, ◌∙◌, ℕ, List, [], ◌∷◌, Option, None, ap, refl, sym}
use Rattle.text_core.specs.declared.token.Token.{Token}
use Rattle.text_core.specs.declared.token.Token.TheVariants.{Number, Thin}
use Rattle.text_core.specs.Arguments.{four_of}
use Rattle.text_core.specs.Grammar.{row_of}
use Rattle.text_core.specs.Token.{tokens}
use Rattle.text_core.proofs.Rows.{four_are}
use Rattle.text_core.proofs.grammar.thin_row.Goals as goal

no_series : (z : Option ℕ) (arguments : List Token) → None ≡ four_of arguments → row_of Thin z arguments ≡ None
no_series z (Number s ∷ Number v ∷ Number n ∷ Number step ∷ []) e = absurd cc
no_series z _ e = refl

pub returns-in_err-s : goal.returns-in_err-s
returns-in_err-s c = c.from_residual.ensures ∙ sym (no_series c.args.zone (tokens c.args.arguments.now) c.in_err-s.ensures)

pub returns : goal.returns
returns c = (cc) ∙ ap (row_of Thin c.args.zone) (sym (four_are (tokens c.args.arguments.now) c.in_ok-s.s c.in_ok-s.v c.in_ok-s.n c.in_ok-s.step c.in_ok-s.ensures))
