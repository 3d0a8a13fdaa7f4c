use Rattle.std.proofs.Common.{ℕ, ◌+◌, ap, arith}
use Rattle.std.specs.Prelude.{Option, unwrap_or}
use Rattle.frame_core.specs.declared.record.Record.TheVariants.{Share}
use Rattle.frame_core.specs.History.{maps}
use Rattle.state_core.specs.declared.placement.Placement.TheVariants.{At}
use Rattle.state_core.proofs.Facts.{frame_within, in_table, page_stands, spare}
use Rattle.state_core.proofs.Sharing.{CanShare}
use Rattle.zone_tables.proofs.Facts.{is_sound}
use Rattle.zone_tables.proofs.Entries.{in_tables}
use Rattle.zone_tables.proofs.ListedAddresses.{count_names, page_rests}
use Rattle.zone_tables.proofs.Noting.{Noting, noting_holds}
use Rattle.zone_tables.proofs.Shared.{sharing}
use Rattle.zone_tables.proofs.Tables.{named_in_use, named_note, note_of, note_seen, use_seen}
use Rattle.zone_tables.proofs.zone.ZoneTables.share.Given.{Over}
use Rattle.zone_tables.proofs.zone.ZoneTables.share.Goals as goal
use Rattle.zone_tables.proofs.zone.ZoneTables.share.Goals.{After-note}

pub share-requires-clause-used : goal.share-requires-clause-used
share-requires-clause-used g c = use_seen c.self.inside c.self.view_is c.args.page (named_in_use c.self.view_is c.self.invariant c.args.address c.args.page c.requires.named)

pub share-requires-clause-few : goal.share-requires-clause-few
share-requires-clause-few g c note at =
    let seen = note_seen c.self.view_is (is_sound c.self.view_is c.self.invariant) (named_in_use c.self.view_is c.self.invariant c.args.address c.args.page c.requires.named) at in
    omega (arith, c.requires.few, ap (λ (o : Option ℕ). maps c.args.self.now.records (unwrap_or o 0)) c.requires.named, seen.fits.maps)

can : {g : Over} (c : After-note g) → CanShare c.args.self.now c.args.address c.args.alias c.args.page c.args.frame
can c =
    record {
      valid = (is_sound c.self.view_is c.self.invariant).valid;
      spare = spare c.args.self.now c.requires.room;
      named = c.requires.named;
      at = page_stands c.args.self.now c.args.address (At c.args.frame) c.args.page c.requires.named c.requires.frame;
      inside = in_table c.args.self.now c.args.alias c.requires.known;
      vacant = c.requires.vacant;
      few = omega (arith, c.requires.few, ap (λ (o : Option ℕ). maps c.args.self.now.records (unwrap_or o 0)) c.requires.named);
    }

known : {g : Over} (c : After-note g) → Noting c.self.inside c.args.self.now c.args.page (Share c.args.client c.args.address c.args.alias) (note_of c.self.inside c.args.page) (record (note_of c.self.inside c.args.page) { maps = (note_of c.self.inside c.args.page).maps + 1 }) c.self.inside.frames c.set.new.self c.note.new.self
known c =
    sharing c.self.inside c.args.self.now (is_sound c.self.view_is c.self.invariant) c.self.view_is c.args.client c.args.address c.args.alias c.args.page c.args.frame (can c)
    _ c.set.new.self c.note.new.self (named_note c.self.view_is c.self.invariant c.args.address c.args.page c.requires.named) c.set.ensures.set c.set.ensures.frames c.set.ensures.size c.note.ensures

pub invariant_of-self : goal.invariant_of-self
invariant_of-self g c = (noting_holds (known c) (c.share.ensures _ (named_note c.self.view_is c.self.invariant c.args.address c.args.page c.requires.named))).0

pub returns-clause-step : goal.returns-clause-step
returns-clause-step g c = (noting_holds (known c) (c.share.ensures _ (named_note c.self.view_is c.self.invariant c.args.address c.args.page c.requires.named))).1

pub returns-clause-valid : goal.returns-clause-valid
returns-clause-valid g c = (invariant_of-self g c).valid

pub set-requires-clause-inside : goal.set-requires-clause-inside
set-requires-clause-inside g c = in_tables c.args.self.now c.self.inside.tables.entries (is_sound c.self.view_is c.self.invariant).size c.args.alias c.requires.known

pub set-requires-clause-within : goal.set-requires-clause-within
set-requires-clause-within g c =
    let sound = is_sound c.self.view_is c.self.invariant in
    let at = page_stands c.args.self.now c.args.address (At c.args.frame) c.args.page c.requires.named c.requires.frame in
    omega (arith, frame_within c.args.self.now sound.valid c.args.page (At c.args.frame) at, sound.tables)

pub set-requires-clause-room : goal.set-requires-clause-room
set-requires-clause-room g c =
    let sound = is_sound c.self.view_is c.self.invariant in
    let at = page_stands c.args.self.now c.args.address (At c.args.frame) c.args.page c.requires.named c.requires.frame in
    omega (arith, c.requires.few, ap (λ (o : Option ℕ). maps c.args.self.now.records (unwrap_or o 0)) c.requires.named, count_names c.self.inside.tables.entries c.args.self.now sound.entries sound.valid sound.size c.args.page c.args.frame at)

pub set-requires-clause-resting : goal.set-requires-clause-resting
set-requires-clause-resting g c =
    let sound = is_sound c.self.view_is c.self.invariant in
    let at = page_stands c.args.self.now c.args.address (At c.args.frame) c.args.page c.requires.named c.requires.frame in
    page_rests c.self.inside.tables.entries c.args.self.now sound.entries sound.valid c.args.page c.args.frame at
