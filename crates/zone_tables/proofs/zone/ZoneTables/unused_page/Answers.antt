use Rattle.std.proofs.Common.{◌∙◌, sym}
use Rattle.zone_tables.proofs.Facts.{is_sound}
use Rattle.zone_tables.proofs.SearchesAndCounts.{lowest_unused_seen}
use Rattle.state_core.proofs.Finding.{unused_left}
use Rattle.zone_tables.proofs.zone.ZoneTables.unused_page.Goals as goal

pub unreachable-requires : goal.unreachable-requires
unreachable-requires g c =
    let sound = is_sound c.self.view_is c.self.invariant in
    unused_left c.args.self.now sound.valid c.requires
    (sym (lowest_unused_seen c.self.inside c.args.self.now c.self.view_is sound.notes.count) ∙ sym c.lowest_unused.ensures ∙ c.in_default.is)

pub returns : goal.returns
returns g c =
    sym (lowest_unused_seen c.self.inside c.args.self.now c.self.view_is (is_sound c.self.view_is c.self.invariant).notes.count) ∙ sym c.lowest_unused.ensures ∙ c.in-Some.is
