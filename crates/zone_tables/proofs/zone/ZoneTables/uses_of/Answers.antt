use Rattle.zone_tables.proofs.Facts.{is_sound}
use Rattle.zone_tables.proofs.Tables.{note_seen, note_within}
use Rattle.zone_tables.proofs.zone.ZoneTables.uses_of.Goals as goal

pub get-note-requires : goal.get-note-requires
get-note-requires g c =
    note_within c.self.inside c.args.self.now (is_sound c.self.view_is c.self.invariant) c.args.page c.requires

pub returns-clause-pins : goal.returns-clause-pins
returns-clause-pins g c =
    let noted = note_seen c.self.view_is (is_sound c.self.view_is c.self.invariant) c.requires c.get-note.ensures in
    noted.fits.pins

pub returns-clause-maps : goal.returns-clause-maps
returns-clause-maps g c =
    let noted = note_seen c.self.view_is (is_sound c.self.view_is c.self.invariant) c.requires c.get-note.ensures in
    noted.fits.maps
