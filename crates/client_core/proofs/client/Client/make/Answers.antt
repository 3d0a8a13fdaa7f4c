use Rattle.std.proofs.Common.{rules}
use Rattle.client_core.proofs.Calls.{holds_more}
use Rattle.client_core.proofs.client.Client.make.Goals as goal

pub invariant_of-self-2 : goal.invariant_of-self-2
invariant_of-self-2 g c =
    let client = c.self.inside in
    holds_more g.J.Telling.pair g.J.Telling.before client.slip c.retry_while_moving.new.slip (g.T.Receipts.items client.receipts) (g.T.Receipts.items c.add.new.self) c.in_ok-answer.receipt
    c.self.invariant c.in_ok-answer.ensures.slip (search rules)

pub returns-clause-ok : goal.returns-clause-ok
returns-clause-ok g c =
    let more = c.in_ok-answer.ensures.receipt in
    (c.in_ok-answer.ensures.made, search (rules, more))
