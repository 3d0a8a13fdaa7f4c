use Rattle.std.proofs.Common.{arith}
use Rattle.zone_tables.proofs.Facts.{is_sound}
use Rattle.zone_tables.proofs.zone.ZoneTables.is_lent_in.Goals as goal

pub is_lent-requires : goal.is_lent-requires
is_lent-requires g c =
    let sound = is_sound c.self.view_is c.self.invariant in
    (omega arith, omega (arith, sound.valid.pages.within c.requires.0 c.args.frame c.requires.1, sound.words.count))
