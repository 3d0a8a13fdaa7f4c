use Rattle.std.proofs.Common.{rules}
use Rattle.frame_core.specs.Access.{access_record}
use Rattle.client_core.specs.Bulk.{records_each}
use Rattle.client_core.proofs.ManyCalls.{none_written, no_slip_written}
use Rattle.client_core.proofs.client.bulk.write_each.Goals as goal

pub returns-then-is_none-clause-stub : goal.returns-then-is_none-clause-stub
returns-then-is_none-clause-stub c = none_written (records_each (access_record c.args.access.now) c.args.from c.args.values.now) c.args.stub.now (search rules)

pub returns-then-is_none-clause-slip : goal.returns-then-is_none-clause-slip
returns-then-is_none-clause-slip c =
    no_slip_written (records_each (access_record c.args.access.now) c.args.from c.args.values.now) c.args.stub.now c.args.slip.now c.requires.pair (search rules)
