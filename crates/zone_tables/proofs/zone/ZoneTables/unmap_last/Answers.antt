use Rattle.std.proofs.Common.{◌≡◌, ◌∙◌, sym, ap}
use Rattle.std.specs.FinSet as set
use Rattle.state_core.specs.declared.placement.Placement.TheVariants.{At}
use Rattle.state_core.proofs.Facts.{frame_within, not_none, spare}
use Rattle.scan_core.specs.Frames.{is_holding_state}
use Rattle.zone_tables.proofs.Facts.{held_by, is_sound}
use Rattle.zone_tables.proofs.Tables.{note_seen, use_seen}
use Rattle.zone_tables.proofs.UnmovablePages.{unmovable_some}
use Rattle.zone_tables.proofs.Unmapped.{Unmapping, last_holds}
use Rattle.zone_tables.proofs.zone.ZoneTables.unmap_last.Given.{Over}
use Rattle.zone_tables.proofs.zone.ZoneTables.unmap_last.Goals as goal
use Rattle.zone_tables.proofs.zone.ZoneTables.unmap_last.Goals.{After-note}

pub empty-requires-clause-page : goal.empty-requires-clause-page
empty-requires-clause-page g c =
    ap is_holding_state (held_by c.self.inside.frames.states c.args.self.now (is_sound c.self.view_is c.self.invariant).frames c.args.page c.args.frame c.requires.here)

pub empty-requires-clause-some : goal.empty-requires-clause-some
empty-requires-clause-some g c =
    let sound = is_sound c.self.view_is c.self.invariant in
    let used = not_none _ (At c.args.frame) c.requires.here in
    λ e. unmovable_some c.args.self.now c.self.inside.frames.unmovable sound.unmovable c.args.page c.args.frame (sound.valid.pages.numbered c.args.page used)
    (frame_within c.args.self.now sound.valid c.args.page (At c.args.frame) c.requires.here) c.requires.here (sym (note_seen c.self.view_is sound used c.get-unmovable.ensures).unmovable ∙ e)

pub remove-requires : goal.remove-requires
remove-requires g c = record { used = use_seen c.self.inside c.self.view_is c.args.page (not_none _ (At c.args.frame) c.requires.here) }

flag : {g : Over} (c : After-note g) → set.contains c.args.self.now.unmovable c.args.page ≡ c.get-unmovable.result.unmovable
flag c = sym (note_seen c.self.view_is (is_sound c.self.view_is c.self.invariant) (not_none _ (At c.args.frame) c.requires.here) c.get-unmovable.ensures).unmovable

unmapping : {g : Over} (c : After-note g) → Unmapping c.self.inside c.args.self.now c.args.client c.args.address c.args.page c.args.frame c.clear.new.self c.note.new.self
unmapping c =
    let sound = is_sound c.self.view_is c.self.invariant in
    record {
      sound = sound;
      view = c.self.view_is;
      can = record { valid = sound.valid; spare = spare c.args.self.now c.requires.room; named = c.requires.named; at = c.requires.here; unpinned = λ one. c.requires.unpinned };
      changes = c.clear.ensures.cleared;
      frames_same = c.clear.ensures.frames;
      size_same = c.clear.ensures.size;
      history_is = c.note.ensures;
    }

pub invariant_of-self : goal.invariant_of-self
invariant_of-self g c = (last_holds _ _ _ _ _ _ _ _ (unmapping c) c.requires.last c.get-unmovable.result.unmovable (flag c) c.empty.ensures.state c.remove.ensures).0

pub returns-clause-step : goal.returns-clause-step
returns-clause-step g c = (last_holds _ _ _ _ _ _ _ _ (unmapping c) c.requires.last c.get-unmovable.result.unmovable (flag c) c.empty.ensures.state c.remove.ensures).1

pub returns-clause-valid : goal.returns-clause-valid
returns-clause-valid g c = (invariant_of-self g c).valid
