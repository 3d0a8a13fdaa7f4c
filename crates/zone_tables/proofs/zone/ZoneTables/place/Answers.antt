use Rattle.std.proofs.Common.{◌∙◌, ◌/◌, ℕ, ap, sym, arith}
use Rattle.std.specs.Prelude.{is_some, slice_set, unwrap_or}
use Rattle.state_core.specs.Mapping.{placed}
use Rattle.state_core.proofs.Facts.{in_table, spare}
use Rattle.state_core.proofs.Finding.{some_lowest, unused_is}
use Rattle.state_core.proofs.Placed.{CanPlace}
use Rattle.zone_tables.proofs.Facts.{is_sound, Becomes}
use Rattle.zone_tables.proofs.FreshPage.{Placing, place_holds}
use Rattle.zone_tables.proofs.Entries.{in_tables}
use Rattle.zone_tables.proofs.LentBlocks.{free_here}
use Rattle.zone_tables.proofs.ListedAddresses.{count_none, none_left}
use Rattle.zone_tables.proofs.SearchesAndCounts.{free_seen}
use Rattle.zone_tables.proofs.Tables.{placement_seen}
use Rattle.zone_tables.proofs.UnmovablePages.{unmovable_few}
use Rattle.zone_tables.proofs.zone.ZoneTables.place.Given.{Over}
use Rattle.zone_tables.proofs.zone.ZoneTables.place.Goals as goal
use Rattle.zone_tables.proofs.zone.ZoneTables.place.Goals.{After-note}
use Rattle.std.proofs.lemmas.Bool.{not-true, and_parts}

pub unused_page-page-requires : goal.unused_page-page-requires
unused_page-page-requires g c = (omega arith, some_lowest c.args.self.now c.args.frame c.requires.free c.requires.within)

can : {g : Over} (c : After-note g) → CanPlace c.args.self.now c.args.address c.unused_page-page.result c.args.frame
can c =
    let unused = unused_is c.args.self.now c.unused_page-page.result c.unused_page-page.ensures in
    record {
      valid = (is_sound c.self.view_is c.self.invariant).valid;
      spare = spare c.args.self.now c.requires.room;
      inside = in_table c.args.self.now c.args.address c.requires.known;
      vacant = c.requires.vacant;
      unused = unused.1;
      numbered = unused.0;
      free = c.requires.free;
      within = c.requires.within;
    }

pub fill-requires-clause-few : goal.fill-requires-clause-few
fill-requires-clause-few g c =
    let sound = is_sound c.self.view_is c.self.invariant in
    λ e. unmovable_few c.args.self.now c.self.inside.frames.unmovable sound.unmovable (c.args.frame / 512) (omega (arith, c.requires.within)) sound.valid.size.1

pub fill-requires-clause-free : goal.fill-requires-clause-free
fill-requires-clause-free g c =
    free_seen c.self.inside.frames.states c.args.self.now (is_sound c.self.view_is c.self.invariant).frames c.args.frame c.requires.within ∙ c.requires.free

pub blank-requires : goal.blank-requires
blank-requires g c =
    let sound = is_sound c.self.view_is c.self.invariant in
    (omega arith, (omega (arith, c.requires.within, sound.words.count), free_here c.self.inside c.args.self.now sound c.args.frame c.requires.free))

pub add-requires-clause-within : goal.add-requires-clause-within
add-requires-clause-within g c =
    let unused = unused_is c.args.self.now c.unused_page-page.result c.unused_page-page.ensures in
    omega (arith, unused.0, (is_sound c.self.view_is c.self.invariant).notes.count)

pub add-requires-clause-unused : goal.add-requires-clause-unused
add-requires-clause-unused g c =
    let unused = unused_is c.args.self.now c.unused_page-page.result c.unused_page-page.ensures in
    ap is_some (placement_seen c.self.inside c.args.self.now c.self.view_is c.unused_page-page.result ∙ unused.1)

placing : {g : Over} (c : After-note g) → Placing c.self.inside c.args.self.now c.args.client c.args.address c.args.unmovable c.unused_page-page.result c.args.frame c.set.new.self c.note.new.self
placing c =
    record {
      sound = is_sound c.self.view_is c.self.invariant;
      view = c.self.view_is;
      can = can c;
      tables_new = c.set.ensures.set;
      frames_same = c.set.ensures.frames;
      size_same = c.set.ensures.size;
      history_is = c.note.ensures;
    }

fresh : {g : Over} (c : After-note g) → Becomes (record c.self.inside { frames = c.fill.new.self; tables = c.set.new.self; words = c.blank.new.self; notes = c.add.new.self; history = c.note.new.self })
    (placed c.args.self.now c.args.client c.args.address c.args.unmovable c.unused_page-page.result c.args.frame)
fresh c =
    place_holds c.self.inside c.args.self.now c.args.client c.args.address c.args.unmovable c.unused_page-page.result c.args.frame c.set.new.self c.note.new.self (placing c)
    c.fill.ensures.page c.blank.ensures.blank (c.add.ensures ∙ ap (slice_set c.self.inside.notes c.unused_page-page.result) c.fresh.ensures)

pub invariant_of-self : goal.invariant_of-self
invariant_of-self g c = (fresh c).0

pub returns-clause-step : goal.returns-clause-step
returns-clause-step g c =
    (fresh c).1
    ∙ ap (λ (page : ℕ). placed c.args.self.now c.args.client c.args.address c.args.unmovable page c.args.frame) (sym (ap (λ o. unwrap_or o 0) c.unused_page-page.ensures))

pub returns-clause-valid : goal.returns-clause-valid
returns-clause-valid g c = (invariant_of-self g c).valid

pub set-requires-clause-inside : goal.set-requires-clause-inside
set-requires-clause-inside g c = in_tables c.args.self.now c.self.inside.tables.entries (is_sound c.self.view_is c.self.invariant).size c.args.address c.requires.known

pub set-requires-clause-within : goal.set-requires-clause-within
set-requires-clause-within g c =
    omega (arith, c.requires.within, (is_sound c.self.view_is c.self.invariant).tables)

pub set-requires-clause-room : goal.set-requires-clause-room
set-requires-clause-room g c =
    let sound = is_sound c.self.view_is c.self.invariant in
    omega (arith, count_none c.self.inside.tables.entries c.args.self.now sound.entries sound.valid sound.size c.args.frame (not-true _ (and_parts _ _ c.requires.free).0))

pub set-requires-clause-resting : goal.set-requires-clause-resting
set-requires-clause-resting g c =
    let sound = is_sound c.self.view_is c.self.invariant in
    none_left c.self.inside.tables.entries c.args.self.now sound.entries sound.valid c.args.frame (not-true _ (and_parts _ _ c.requires.free).0)
