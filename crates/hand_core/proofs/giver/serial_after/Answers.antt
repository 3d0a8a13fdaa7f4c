use Rattle.std.proofs.Common.{◌-◌, length, arith}
use Rattle.hand_core.proofs.Serials.{serial_of}
use Rattle.hand_core.proofs.giver.serial_after.Goals as goal

pub returns-in-Some : goal.returns-in-Some
returns-in-Some c =
    let pages = c.args.pages.now in
    let last = serial_of c.args.next pages (length pages - 1) c.in-Some.page.now c.requires c.in-Some.ensures.value in
    let serial = c.serial.ensures in
    let number = c.from.ensures in omega arith
