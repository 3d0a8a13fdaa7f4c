use Rattle.std.proofs.Common.{◌∙◌, ◌++◌, ap, sym}
use Rattle.text_core.specs.Reply.{pool_stopped_text}
use Rattle.text_core.proofs.reply.push_pool_stopped.Goals as goal

pub returns-in-Enough-clause-text : goal.returns-in-Enough-clause-text
returns-in-Enough-clause-text g c = c.push_str.ensures.bytes ∙ ap (λ s. c.args.text.now.bytes ++ pool_stopped_text s) (sym c.in-Enough.is)
