use Rattle.std.proofs.Common.{◌≡◌, ◌-◌, arith}
use Rattle.std.specs.Prelude.{Some, slice_get}
use Rattle.frame_core.specs.declared.record.Record.TheVariants.{Unmap}
use Rattle.state_core.specs.declared.placement.Placement.TheVariants.{At}
use Rattle.state_core.proofs.Facts.{not_none, spare}
use Rattle.zone_tables.proofs.Facts.{is_sound}
use Rattle.zone_tables.proofs.Noting.{Noting, noting_holds}
use Rattle.zone_tables.proofs.Unmapped.{Unmapping, unmapping_one}
use Rattle.zone_tables.proofs.Tables.{note_is, note_of, note_seen, use_seen}
use Rattle.zone_tables.proofs.zone.ZoneTables.unmap_one.Given.{Over}
use Rattle.zone_tables.proofs.zone.ZoneTables.unmap_one.Goals as goal
use Rattle.zone_tables.proofs.zone.ZoneTables.unmap_one.Goals.{After-note}

pub unshare-requires-clause-used : goal.unshare-requires-clause-used
unshare-requires-clause-used g c = use_seen c.self.inside c.self.view_is c.args.page (not_none _ (At c.requires.here.0) c.requires.here.1)

pub unshare-requires-clause-some : goal.unshare-requires-clause-some
unshare-requires-clause-some g c note at =
    let sound = is_sound c.self.view_is c.self.invariant in
    let used = not_none _ (At c.requires.here.0) c.requires.here.1 in
    omega (arith, (note_seen c.self.view_is sound used at).fits.maps, (sound.valid.agrees.in_use c.args.page used).0)

seen : {g : Over} (c : After-note g) → slice_get c.self.inside.notes c.args.page ≡ Some (note_of c.self.inside c.args.page)
seen c = note_is c.self.inside c.args.self.now (is_sound c.self.view_is c.self.invariant) c.args.page (not_none _ (At c.requires.here.0) c.requires.here.1)

unmapping : {g : Over} (c : After-note g) → Unmapping c.self.inside c.args.self.now c.args.client c.args.address c.args.page c.requires.here.0 c.clear.new.self c.note.new.self
unmapping c =
    let sound = is_sound c.self.view_is c.self.invariant in
    record {
      sound = sound;
      view = c.self.view_is;
      can = record { valid = sound.valid; spare = spare c.args.self.now c.requires.room; named = c.requires.named; at = c.requires.here.1; unpinned = λ one. absurd (c.requires.more one) };
      changes = c.clear.ensures.cleared;
      frames_same = c.clear.ensures.frames;
      size_same = c.clear.ensures.size;
      history_is = c.note.ensures;
    }

known : {g : Over} (c : After-note g) → Noting c.self.inside c.args.self.now c.args.page (Unmap c.args.client c.args.address) (note_of c.self.inside c.args.page) (record (note_of c.self.inside c.args.page) { maps = (note_of c.self.inside c.args.page).maps - 1 }) c.self.inside.frames c.clear.new.self c.note.new.self
known c = unmapping_one _ _ _ _ _ _ _ _ (unmapping c) c.requires.more _ (seen c)

pub invariant_of-self : goal.invariant_of-self
invariant_of-self g c = (noting_holds (known c) (c.unshare.ensures _ (seen c))).0

pub returns-clause-step : goal.returns-clause-step
returns-clause-step g c = (noting_holds (known c) (c.unshare.ensures _ (seen c))).1

pub returns-clause-valid : goal.returns-clause-valid
returns-clause-valid g c = (invariant_of-self g c).valid
