use Rattle.std.proofs.Common.{◌+◌, ◌*◌, arith}
use Rattle.std.specs.Prelude.{nat_le}
use Rattle.zone_tables.proofs.OutAndEnded.{out_fits, out_seen, room_seen}
use Rattle.zone_tables.proofs.zone.ZoneTables.has_room_to_reserve.Goals as goal

pub overflow_add-result : goal.overflow_add-result
overflow_add-result g c = omega (arith, out_fits c.self.view_is c.self.invariant c.out.ensures, c.from.ensures, c.ranges.pages.fits)

pub overflow_add-result-2 : goal.overflow_add-result-2
overflow_add-result-2 g c = omega (arith, out_fits c.self.view_is c.self.invariant c.out.ensures, c.from.ensures, c.from-2.ensures, c.ranges.pages.fits, c.ranges.blocks.fits)

pub returns : goal.returns
returns g c =
    let out = out_seen c.self.view_is c.self.invariant c.out.ensures in
    let room = room_seen c.self.view_is c.self.invariant c.room.result c.room.ensures in
    λ i. nat_le (out i + 2 * c.from.ensures i + c.from-2.ensures i) (room i)
