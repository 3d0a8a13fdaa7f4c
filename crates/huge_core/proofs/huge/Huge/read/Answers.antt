use Rattle.std.proofs.Common.{length}
use Rattle.huge_core.proofs.Refused.{read, refused_words}
use Rattle.huge_core.proofs.huge.Huge.read.Goals as goal

pub returns-clause-refused : goal.returns-clause-refused
returns-clause-refused g c =
    rw (← c.self.view_is)
    (refused_words _ _ c.behind-room.inside.zone _ c.args.from (length c.args.values.now) c.behind-room.invariant.1 c.behind-room.invariant.0
    c.read_block.result c.read_block.ensures.refused)

pub returns-clause-ok : goal.returns-clause-ok
returns-clause-ok g c =
    rw (← c.self.view_is)
    (read _ _ c.behind-room.inside.zone _ c.args.from (length c.args.values.now) c.read_block.new.values c.behind-room.invariant.1 c.behind-room.invariant.0
    c.read_block.result c.read_block.ensures.refused c.read_block.ensures.values)
