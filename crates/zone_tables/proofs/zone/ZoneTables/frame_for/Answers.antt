use Rattle.std.proofs.Common.{◌≡◌, ◌∙◌, ◌<◌, ℕ, Bool, false, not, ap, sym}
use Rattle.std.specs.Prelude.{Option, Some, None, IfSome, IsTrue, is_none, if◌then◌else◌}
use Rattle.state_core.specs.ZoneState.{ZoneState, is_free, frame_count, frame_for, frame_with_unmovable, frame_without_unmovable, lowest_free_frame}
use Rattle.state_core.proofs.Finding.{frame_for_is, frame_for_none}
use Rattle.zone_tables.proofs.Facts.{is_sound}
use Rattle.zone_tables.proofs.SearchesAndCounts.{apart_seen, lowest_free_seen}
use Rattle.zone_tables.proofs.zone.ZoneTables.frame_for.Given.{Over}
use Rattle.zone_tables.proofs.zone.ZoneTables.frame_for.Goals as goal
use Rattle.zone_tables.proofs.zone.ZoneTables.frame_for.Goals.{After-frame_apart, After-lowest_free}

found_free : (v : ZoneState) (unmovable : Bool) (o : Option ℕ) → o ≡ frame_for v unmovable → IfSome o (λ frame. IsTrue (is_free v frame))
found_free v unmovable None e = tt
found_free v unmovable (Some frame) e = (frame_for_is v unmovable frame (sym e)).1

found_within : (v : ZoneState) (unmovable : Bool) (o : Option ℕ) → o ≡ frame_for v unmovable → IfSome o (λ frame. frame < frame_count v)
found_within v unmovable None e = tt
found_within v unmovable (Some frame) e = (frame_for_is v unmovable frame (sym e)).0

apart : {g : Over} (c : After-frame_apart g) → c.frame_apart.result ≡ frame_for c.args.self.now c.args.unmovable
apart c =
    let sound = is_sound c.self.view_is c.self.invariant in
    c.frame_apart.ensures.frame ∙ apart_seen c.self.inside.frames c.args.self.now sound.frames sound.unmovable c.args.unmovable (sym (ap (λ (u : ZoneState). u.apart) c.self.view_is) ∙ c.if-self.true)

together : (v : ZoneState) (unmovable : Bool) → v.apart ≡ false → frame_for v unmovable ≡ lowest_free_frame v
together v unmovable e = ap (λ a. if not a then lowest_free_frame v else if unmovable then frame_with_unmovable v else frame_without_unmovable v) e

low : {g : Over} (c : After-lowest_free g) → c.lowest_free.result ≡ frame_for c.args.self.now c.args.unmovable
low c =
    c.lowest_free.ensures.lowest ∙ lowest_free_seen c.self.inside.frames.states c.args.self.now (is_sound c.self.view_is c.self.invariant).frames
    ∙ sym (together c.args.self.now c.args.unmovable (sym (ap (λ (u : ZoneState). u.apart) c.self.view_is) ∙ c.if-self.false))

pub returns-then-self-clause-frame : goal.returns-then-self-clause-frame
returns-then-self-clause-frame g c = apart c

pub returns-then-self-clause-none : goal.returns-then-self-clause-none
returns-then-self-clause-none g c = ap is_none (apart c) ∙ frame_for_none c.args.self.now c.args.unmovable

pub returns-then-self-clause-free : goal.returns-then-self-clause-free
returns-then-self-clause-free g c = found_free c.args.self.now c.args.unmovable c.frame_apart.result (apart c)

pub returns-then-self-clause-within : goal.returns-then-self-clause-within
returns-then-self-clause-within g c = found_within c.args.self.now c.args.unmovable c.frame_apart.result (apart c)

pub returns-clause-frame : goal.returns-clause-frame
returns-clause-frame g c = low c

pub returns-clause-none : goal.returns-clause-none
returns-clause-none g c = ap is_none (low c) ∙ frame_for_none c.args.self.now c.args.unmovable

pub returns-clause-free : goal.returns-clause-free
returns-clause-free g c = found_free c.args.self.now c.args.unmovable c.lowest_free.result (low c)

pub returns-clause-within : goal.returns-clause-within
returns-clause-within g c = found_within c.args.self.now c.args.unmovable c.lowest_free.result (low c)
