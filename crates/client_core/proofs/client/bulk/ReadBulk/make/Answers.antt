use Rattle.std.proofs.Common.{length}
use Rattle.client_core.proofs.ManyCalls.{read_calls, read_count}
use Rattle.client_core.proofs.client.bulk.ReadBulk.make.Goals as goal

pub returns-clause-calls : goal.returns-clause-calls
returns-clause-calls g c =
    let call = c.args.self.now in
    read_calls c.args.zone.now c.read.new.self call.client call.address call.from (length c.args.words.now) c.read.new.values c.requires.valid
    c.read.result c.read.ensures.refused c.read.ensures.values c.read.ensures.ok

pub returns-clause-count : goal.returns-clause-count
returns-clause-count g c =
    let call = c.args.self.now in
    read_count c.args.zone.now c.read.new.self call.client call.address call.from (length c.args.words.now) c.read.new.values c.read.result c.read.ensures.values
