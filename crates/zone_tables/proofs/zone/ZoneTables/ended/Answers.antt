use Rattle.std.proofs.Common.{arith}
use Rattle.zone_tables.proofs.Facts.{is_sound}
use Rattle.zone_tables.proofs.zone.ZoneTables.ended.Goals as goal

pub returns : goal.returns
returns g c =
    let moves = (is_sound c.self.view_is c.self.invariant).moves in
    omega (arith, c.ended.ensures, moves.moved, moves.back)
