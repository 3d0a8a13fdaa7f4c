use Rattle.std.proofs.Common.{◌∙◌}
use Rattle.zone_tables.proofs.Facts.{is_sound}
use Rattle.zone_tables.proofs.Tables.{note_seen, note_within, flags_seen}
use Rattle.zone_tables.proofs.zone.ZoneTables.flags_of.Goals as goal

pub get-note-requires : goal.get-note-requires
get-note-requires g c =
    note_within c.self.inside c.args.self.now (is_sound c.self.view_is c.self.invariant) c.args.page c.requires

pub returns : goal.returns
returns g c =
    let noted = note_seen c.self.view_is (is_sound c.self.view_is c.self.invariant) c.requires c.get-note.ensures in
    c.of.ensures.flags ∙ flags_seen c.self.inside c.args.self.now c.args.page c.get-note.result noted
