use Rattle.keeper_thread.proofs.Taking.{refused, took}
use Rattle.keeper_thread.proofs.shared_pool.SharedPool.take.Goals as goal

pub returns-clause-ok : goal.returns-clause-ok
returns-clause-ok g c = took g.K.KeeperIdentity.order c.deref_mut.result.now c.take.new.self c.take.ensures.order c.take.result c.take.ensures.ok c.take.ensures.valid

pub returns-clause-refused : goal.returns-clause-refused
returns-clause-refused g c = refused g.K.KeeperIdentity.order c.deref_mut.result.now c.take.new.self c.take.ensures.order c.take.result c.take.ensures.refused
