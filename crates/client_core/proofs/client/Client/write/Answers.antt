use Rattle.std.proofs.Common.{◌≡◌, rules}
use Rattle.frame_core.specs.declared.record.Record.TheVariants.{Store}
use Rattle.client_core.specs.Bulk.{records_each}
use Rattle.client_core.proofs.ManyCalls.{holds_all}
use Rattle.client_core.proofs.client.Client.write.Goals as goal

pub invariant_of-self-2 : goal.invariant_of-self-2
invariant_of-self-2 g c =
    let client = c.self.inside in
    let made = c.in_ok-retry_bulk_while_moving.ensures in
    holds_all g.J.Telling.pair g.J.Telling.before (records_each (Store client.number c.args.address) c.args.from c.args.values.now)
    client.slip c.retry_bulk_while_moving.new.slip (g.T.Receipts.items client.receipts) (g.T.Receipts.items c.retry_bulk_while_moving.new.receipts)
    c.self.invariant made.slip (search rules)

pub returns-clause-accepted : goal.returns-clause-accepted
returns-clause-accepted g c =
    let is : c.self.inside.number ≡ c.args.self.now.number = search rules in
    let made = c.in_ok-retry_bulk_while_moving.ensures.accepted in
    rw (← is) record { zone = made.zone; valid = made.valid; accepted = made.accepted; zone_new = made.zone_new; left = made.left }
