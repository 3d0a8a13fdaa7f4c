use Rattle.std.proofs.Common.{◌∙◌}
use Rattle.std.proofs.lemmas.Result.{IfOk-weaker}
use Rattle.script_core.proofs.Arguments.{whole_run}
use Rattle.script_core.proofs.options.list_of.Goals as goal

pub returns : goal.returns
returns c = IfOk-weaker c.collect.result _ _ (λ list collected. let run = collected tt in run.3.0 ∙ whole_run c.args.words run.0 run.1 run.2) c.collect.ensures.runs
