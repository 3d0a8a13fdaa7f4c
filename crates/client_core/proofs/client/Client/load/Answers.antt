use Rattle.std.proofs.Common.{rules}
use Rattle.client_core.proofs.Made.{load_accepted}
use Rattle.client_core.proofs.client.Client.load.Goals as goal

pub returns-in_err-value-clause-refused : goal.returns-in_err-value-clause-refused
returns-in_err-value-clause-refused g c =
    let is = rw c.of_client-call.ensures at c.make.ensures.refused in
    search (rules, is)

pub returns-clause-accepted : goal.returns-clause-accepted
returns-clause-accepted g c =
    let made = rw c.of_client-call.ensures at c.in_ok-value.ensures.ok in
    load_accepted c.args.self.now c.make.new.self c.in_ok-value.field-0 c.args.address c.args.word c.in-Value.value made c.in-Value.is

pub returns-clause-err : goal.returns-clause-err
returns-clause-err g c = tt

pub returns-clause-refused : goal.returns-clause-refused
returns-clause-refused g c = tt
