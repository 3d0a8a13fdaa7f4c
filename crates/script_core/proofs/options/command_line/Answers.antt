-- The command is built up option by option, and clap's rules with it.
use Rattle.std.proofs.Common.{◌∙◌, ap, codes}
use Rattle.std.proofs.lemmas.Result.{IfOk-weaker}
use Rattle.clap.specs.Words.{App, with_rule}
use Rattle.script_core.specs.CommandLine.{number_rule, options_line}
use Rattle.script_core.proofs.options.command_line.Goals as goal

pub returns : goal.returns
unfolding options_line
returns c =
    let none = c.bare_line.ensures in
    let one = c.in_ok-command.ensures in
    let two = c.in_ok-command-2.ensures in
    IfOk-weaker c.with_number-3.result _ _ (λ command three. record {
      app = three.app ∙ ap (λ (a : App). with_rule a (number_rule (codes "journal") 65536)) (two.app ∙ ap (λ (a : App). with_rule a (number_rule (codes "capacity") 64)) (one.app ∙ ap (λ (a : App). with_rule a (number_rule (codes "copiers") 4)) none.app));
      plain = three.plain (two.plain (one.plain none.plain));
      local = three.local (two.local (one.local none.local));
    }) c.with_number-3.ensures
