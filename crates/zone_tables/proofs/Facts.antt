-- What is known of a zone that is sound.
use Rattle.std.proofs.Common.{◌≡◌, ℕ, List, ap, subst, ◌∙◌, sym}
use Rattle.std.specs.Prelude.{Option, Some, slice_get}
use Rattle.std.specs.FinMap as map
use Rattle.frame_core.specs.declared.state.FrameState.{FrameState}
use Rattle.frame_core.specs.declared.state.FrameState.TheVariants.{Holds}
use Rattle.frame_core.specs.declared.record.Record.{Record}
use Rattle.zone_tables.specs.History.{History, told}
use Rattle.zone_tables.specs.declared.zone.ZoneTables.TheInside.{Inside}
use Rattle.state_core.specs.declared.placement.Placement.{Placement}
use Rattle.state_core.specs.declared.placement.Placement.TheVariants.{At}
use Rattle.zone_tables.specs.Fits.{state_by, FramesFit}
use Rattle.zone_tables.specs.Sound.{state_of, IsSound}
use Rattle.state_core.specs.ZoneState.{ZoneState, noted}
use Rattle.state_core.proofs.Facts.{chosen}

-- a zone is sound in the state that is seen of it
pub is_sound : {W : ℕ} {z : Inside W} {v : ZoneState} → state_of z ≡ v → IsSound z (state_of z) → IsSound z v
is_sound {W} {z} view sound = subst (IsSound z) view sound

-- the frame of a page that isn't moving holds the page
pub held_by : (frames : List (FrameState ℕ)) (v : ZoneState) → FramesFit frames v → (page frame : ℕ) → map.get v.placement page ≡ Some (At frame) → slice_get frames frame ≡ Some (Holds page)
held_by frames v fit page frame e = fit.of_page page frame (Holds page) (ap (λ (o : Option Placement). state_by page o frame) e ∙ chosen frame _ _)

-- the state with one more record, and nothing else changed
pub noted_view : {W : ℕ} (z : Inside W) (v : ZoneState) (history : History) (entry : Record) → state_of z ≡ v → history ≡ told z.history entry → state_of (record z { history = history }) ≡ noted v entry
noted_view z v history entry view is = ap (λ (h : History). state_of (record z { history = h })) is ∙ ap (λ (u : ZoneState). noted u entry) view

-- the fields of a zone are sound, and stand for this state
abbrev pub Becomes : {W : ℕ} → Inside W → ZoneState → Type 0
Becomes y w = IsSound y (state_of y) × (state_of y ≡ w)

pub becomes : {W : ℕ} {y ideal : Inside W} {w : ZoneState} → y ≡ ideal → state_of ideal ≡ w → IsSound ideal w → Becomes y w
becomes {W} {y} {ideal} {w} same view sound = subst (λ (u : Inside W). Becomes u w) (sym same) (subst (IsSound ideal) (sym view) sound, view)
