use Rattle.round_core.proofs.Limits.{if_unlimited}
use Rattle.round_core.proofs.compacting.compact.Goals as goal

pub returns-clause-stops : goal.returns-clause-stops
returns-clause-stops g c = (if_unlimited g.K.Keeping.stops_at c.run_whole.new.seats.scan.count c.run_whole.result c.run_whole.ensures.stops).0

pub returns-clause-unlimited : goal.returns-clause-unlimited
returns-clause-unlimited g c = (if_unlimited g.K.Keeping.stops_at c.run_whole.new.seats.scan.count c.run_whole.result c.run_whole.ensures.stops).1
