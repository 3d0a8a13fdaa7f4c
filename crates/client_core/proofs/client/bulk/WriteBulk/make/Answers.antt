use Rattle.client_core.proofs.ManyCalls.{write_calls}
use Rattle.client_core.proofs.client.bulk.WriteBulk.make.Goals as goal

pub returns-clause-calls : goal.returns-clause-calls
returns-clause-calls g c =
    let call = c.args.self.now in
    write_calls c.args.zone.now c.write.new.self call.client call.address call.from call.values.now c.requires.valid c.write.result c.write.ensures.refused c.write.ensures.ok
