use Rattle.std.proofs.Common.{rules}
use Rattle.state_core.specs.Calls.{refusal_of}
use Rattle.client_core.proofs.Calls.{made, refused}
use Rattle.client_core.proofs.making.retry_while_moving.Goals as goal

pub returns-in_default-clause-made : goal.returns-in_default-clause-made
returns-in_default-clause-made g c =
    let kept = c.make_kept in
    let is = made c.args.call c.deref_mut.result.now kept.ensures.valid kept.result kept.ensures.refused kept.ensures.answer in
    search (rules, is)

pub returns-in_default-clause-refused : goal.returns-in_default-clause-refused
returns-in_default-clause-refused g c =
    let kept = c.make_kept in
    let is = refused (refusal_of c.args.call) c.deref_mut.result.now kept.ensures.valid kept.result kept.ensures.refused in
    search (rules, is)

pub returns-in_default-clause-there : goal.returns-in_default-clause-there
returns-in_default-clause-there g c = search rules
