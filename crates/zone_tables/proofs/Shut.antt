-- Which frames are handed out or immovable, by their states.
use Rattle.std.proofs.Common.{◌≡◌, ◌≢◌, ℕ, ◌<◌, Bool, true, false, not, ◌&&◌, ◌||◌, cond, ◌⊎◌, inl, inr, refl, sym, ap, ◌∙◌}
use Rattle.std.specs.Prelude.{Option, Some, None, IsSome, nat_eq, slice_get}
use Rattle.std.specs.FinMap as map
use Rattle.std.proofs.lemmas.Bool.{and_from, and_parts, and_right, cases_Bool, not-true, or_from, or_left, or_right}
use Rattle.frame_core.proofs.Searches.{none_some, some_at}
use Rattle.frame_core.specs.declared.state.FrameState.{FrameState}
use Rattle.frame_core.specs.declared.state.FrameState.TheVariants.{Free, Holds, Huge, Source, Target}
use Rattle.scan_core.specs.Frames.{is_free_state}
use Rattle.state_core.specs.declared.placement.Placement.{Placement}
use Rattle.state_core.specs.declared.placement.Placement.TheVariants.{At, Moving}
use Rattle.state_core.specs.Pairs.{can_move}
use Rattle.state_core.specs.ZoneState.{ZoneState, frame_count, is_held, takes_up}
use Rattle.state_core.proofs.Facts.{not_none}
use Rattle.state_core.proofs.Holding.{at_takes}
use Rattle.fewest_core.specs.FewestMoves.{has_to_stay, is_immovable, is_moving}
use Rattle.fewest_core.proofs.Moves.{unused_movable}
use Rattle.zone_tables.specs.declared.zone.ZoneTables.TheInside.{Inside}
use Rattle.zone_tables.specs.Fits.{state_by}
use Rattle.zone_tables.specs.Sound.{IsSound}
use Rattle.zone_tables.proofs.Placement.{state_taken}
use Rattle.zone_tables.proofs.SearchesAndCounts.{free_seen}
use Rattle.zone_tables.proofs.Tables.{frame_cases, holds_seen}

-- a page that doesn't rest in the frame that it puts in a state is moving
at_state : (b : Bool) (page : ℕ) (state : FrameState ℕ) → cond b (Some (Holds page)) None ≡ Some state → state ≡ Holds page
at_state true page state e = cc
at_state false page state e = cc

moves_in : (page : ℕ) (o : Option Placement) (frame : ℕ) (state : FrameState ℕ) → state_by page o frame ≡ Some state → (state ≡ Holds page → ⊥) → is_moving o ≡ true
moves_in page None frame state e off = cc
moves_in page (Some (At f)) frame state e off = absurd (off (at_state (nat_eq frame f) page state e))
moves_in page (Some (Moving serial source target)) frame state e off = refl

taken_some : (o : Option Placement) (frame : ℕ) → takes_up o frame ≡ true → IsSome o
taken_some None frame takes = cc
taken_some (Some place) frame takes = refl

module _ {W : ℕ} (z : Inside W) (v : ZoneState) (sound : IsSound z v) (frame : ℕ) (within : frame < frame_count v) where
  abbrev is_fixed : Bool
  is_fixed = is_held v frame || is_immovable v frame

  pub fixed_free : slice_get z.frames.states frame ≡ Some Free → is_fixed ≡ false
  fixed_free at =
      let free = and_parts _ (not (is_held v frame)) (sym (free_seen z.frames.states v sound.frames frame within) ∙ ap is_free_state at) in
      or_from (is_held v frame) _ (not-true _ free.1) (unused_movable v frame (not-true _ free.0))

  module _ (page : ℕ) (at : map.get v.placement page ≡ Some (At frame)) where
    takes : takes_up (map.get v.placement page) frame ≡ true
    takes = at_takes _ frame at

    stays_is : has_to_stay v page ≡ not (can_move v page)
    stays_is = ap (λ (o : Option Placement). is_moving o || not (can_move v page)) at

    fixed_by : (can : Bool) → can_move v page ≡ can → is_immovable v frame ≡ not can
    fixed_by false stuck = some_at (λ q. has_to_stay v q && takes_up (map.get v.placement q) frame) (frame_count v) page (sound.valid.pages.numbered page (not_none _ (At frame) at)) (and_from (has_to_stay v page) _ (stays_is ∙ ap not stuck) takes)
    fixed_by true goes = none_some (λ q. has_to_stay v q && takes_up (map.get v.placement q) frame) (frame_count v) (λ q h. elim (cases_Bool (takes_up (map.get v.placement q) frame)) [
      | inl too ↦ ap (λ b. b && takes_up (map.get v.placement q) frame) (ap (has_to_stay v) (sound.valid.pages.apart q page frame too takes) ∙ stays_is ∙ ap not goes)
      | inr off ↦ and_right (has_to_stay v q) _ off
    ])

    pub fixed_at : is_fixed ≡ not (can_move v page)
    fixed_at = ap (λ b. b || is_immovable v frame) (sound.valid.pages.clear page frame takes) ∙ fixed_by (can_move v page) refl

  pub fixed_holds : (page : ℕ) (can : Bool) → slice_get z.frames.states frame ≡ Some (Holds page) → slice_get z.frames.movable frame ≡ Some can → is_fixed ≡ not can
  fixed_holds page can at noted =
      let here = holds_seen z.frames.states v sound.frames frame page (Holds page) within at refl in
      let two : Some can ≡ Some (can_move v page) = sym noted ∙ sound.movable.each page frame here in
      let same : can ≡ can_move v page = cc in
      fixed_at page here ∙ ap not (sym same)

  -- a frame that is handed out, or that a page comes from or goes to
  fixed_else : (state : FrameState ℕ) → slice_get z.frames.states frame ≡ Some state → ((page : ℕ) → state ≡ Holds page → ⊥) → state ≢ Free → is_fixed ≡ true
  fixed_else state at resting unfree = elim (frame_cases z.frames.states v sound.frames frame state within at) [
    | inl by ↦
        (let moving = moves_in by.page (map.get v.placement by.page) frame state by.puts (resting by.page) in
        let taken = state_taken by.page (map.get v.placement by.page) frame state by.puts in
        or_right (is_held v frame) _ (some_at (λ q. has_to_stay v q && takes_up (map.get v.placement q) frame) (frame_count v) by.page (sound.valid.pages.numbered by.page (taken_some (map.get v.placement by.page) frame taken)) (and_from (has_to_stay v by.page) _ (or_left _ _ moving) taken)))
    | inr off ↦ elim off [ inl held ↦ or_left _ _ held.0 | inr free ↦ absurd (unfree free.1) ]
  ]

  pub fixed_other : (state : FrameState ℕ) → slice_get z.frames.states frame ≡ Some state → ((page : ℕ) × (state ≡ Source page)) ⊎ (((page : ℕ) × (state ≡ Target page)) ⊎ (state ≡ Huge)) → is_fixed ≡ true
  fixed_other state at (inl source) = fixed_else state at (λ page e. (let bad : Source source.0 ≡ Holds page = sym source.1 ∙ e in cc)) (λ e. (let bad : Source source.0 ≡ Free = sym source.1 ∙ e in cc))
  fixed_other state at (inr (inl target)) = fixed_else state at (λ page e. (let bad : Target target.0 ≡ Holds page = sym target.1 ∙ e in cc)) (λ e. (let bad : Target target.0 ≡ Free = sym target.1 ∙ e in cc))
  fixed_other state at (inr (inr huge)) = fixed_else state at (λ page e. (let bad : Huge ≡ Holds page = sym huge ∙ e in cc)) (λ e. (let bad : Huge ≡ Free = sym huge ∙ e in cc))
