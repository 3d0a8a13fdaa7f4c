use Rattle.std.proofs.Common.{ℕ, ap, not}
use Rattle.std.specs.Prelude.{nat_eq}
use Rattle.zone_tables.proofs.Facts.{is_sound}
use Rattle.zone_tables.proofs.Tables.{note_seen, note_within}
use Rattle.zone_tables.proofs.zone.ZoneTables.has_pin.Goals as goal

pub get-requires : goal.get-requires
get-requires g c =
    note_within c.self.inside c.args.self.now (is_sound c.self.view_is c.self.invariant) c.args.page c.requires

pub returns : goal.returns
returns g c =
    let noted = note_seen c.self.view_is (is_sound c.self.view_is c.self.invariant) c.requires c.get.ensures in
    ap (λ (n : ℕ). not (nat_eq n 0)) noted.fits.pins
