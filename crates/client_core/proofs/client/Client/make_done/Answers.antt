use Rattle.std.proofs.Common.{rules}
use Rattle.client_core.proofs.Made.{accepted, receipt_is}
use Rattle.client_core.proofs.client.Client.make_done.Goals as goal

pub returns-in_err-make-clause-refused : goal.returns-in_err-make-clause-refused
returns-in_err-make-clause-refused g c =
    let is = rw c.of_client.ensures at c.make.ensures.refused in
    search (rules, is)

pub returns-clause-ok : goal.returns-clause-ok
returns-clause-ok g c =
    let made = rw c.of_client.ensures at c.in_ok-make.ensures.ok in
    rw (c.requires.done made.0.zone) at (receipt_is c.args.self.now c.make.new.self c.in_ok-make.field-0 c.args.call made)

pub returns-clause-accepted : goal.returns-clause-accepted
returns-clause-accepted g c =
    accepted c.args.self.now c.make.new.self c.in_ok-make.field-0 c.args.call (rw c.of_client.ensures at c.in_ok-make.ensures.ok)
