use Rattle.std.proofs.Common.{length}
use Rattle.huge_core.proofs.Refused.{written, refused_words}
use Rattle.huge_core.proofs.huge.Huge.write.Goals as goal

pub returns-clause-refused : goal.returns-clause-refused
returns-clause-refused g c =
    rw (← c.self.view_is)
    (refused_words _ _ c.behind-room.inside.zone _ c.args.from (length c.args.values.now) c.behind-room.invariant.1 c.behind-room.invariant.0
    c.write_block.result c.write_block.ensures.refused)

pub returns-clause-ok : goal.returns-clause-ok
returns-clause-ok g c =
    rw (← c.self.view_is)
    (written _ _ c.behind-room.inside.zone c.write_block.new.self _ c.args.from c.args.values.now c.behind-room.invariant.1 c.write_block.ensures.valid
    c.write_block.result c.write_block.ensures.refused c.write_block.ensures.ok)
