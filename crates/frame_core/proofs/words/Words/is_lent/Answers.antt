use Rattle.std.proofs.Common.{length, ap, arith}
use Rattle.frame_core.proofs.FlatRows.{length-rows_of}
use Rattle.frame_core.proofs.words.Words.is_lent.Goals as goal

pub contains-requires : goal.contains-requires
contains-requires g c = omega (arith, c.requires, c.self.invariant.5, ap (λ s. length s.rows) c.self.view_is, length-rows_of g.row.W c.self.inside.frames c.self.inside.ground.words)
