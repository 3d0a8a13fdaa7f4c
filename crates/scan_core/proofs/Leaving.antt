-- The frames that pages are leaving, by the sets that have none of them.
use Rattle.std.proofs.Common.{◌≡◌, ℕ, ◌+◌, ◌<◌, ◌≤◌, Bool, true, false, not, length, inl, inr, refl, sym, ap, ◌∙◌, arith}
use Rattle.std.specs.Prelude.{Option, Some, None, slice_get, nat_lt, ◌&&◌, ◌||◌}
use Rattle.std.specs.FinSet as set
use Rattle.std.specs.Ordering.{nat_cmp}
use Rattle.std.proofs.lemmas.Bool.Decides.{leb_tells, nat_tests}
use Rattle.std.proofs.lemmas.Option.{slice_get_past}
use Rattle.frame_core.specs.declared.state.FrameState.{FrameState}
use Rattle.frame_core.specs.declared.state.FrameState.TheVariants.{Free, Holds, Huge, Source, Target}
use Rattle.number_set.specs.Finds.{is_outside, IsFrom, NoneFrom}
use Rattle.scan_core.specs.Frames.{Frames, is_free_state, is_holding_state, is_leaving_state, leaving_at, true_at}
use Rattle.scan_core.specs.Seen.{seen}
use Rattle.scan_core.specs.Sound.{frames_of, IsSound}
use Rattle.scan_core.specs.declared.frames.Frames.TheInside.{Inside}
use Rattle.scan_core.proofs.Seeing.{seen_get, seen_state}
use Rattle.scan_core.proofs.Sounding.{frames_kept}

-- a frame that is free, or holds a page at rest, or is held is left by none
not_free : (o : Option (FrameState ℕ)) → is_free_state o ≡ true → is_leaving_state o ≡ false
not_free None e = refl
not_free (Some Free) e = refl
not_free (Some (Holds page)) e = refl
not_free (Some (Source page)) e = absurd cc
not_free (Some (Target page)) e = refl
not_free (Some Huge) e = refl

not_resting : (o : Option (FrameState ℕ)) (movable : Bool) → (is_holding_state o && movable) ≡ true → is_leaving_state o ≡ false
not_resting None movable e = refl
not_resting (Some Free) movable e = refl
not_resting (Some (Holds page)) movable e = refl
not_resting (Some (Source page)) movable e = absurd cc
not_resting (Some (Target page)) movable e = refl
not_resting (Some Huge) movable e = refl

not_held : (o : Option (FrameState ℕ)) → is_leaving_state (seen_state true o) ≡ false
not_held None = refl
not_held (Some state) = refl

-- where one of three tests holds, and each of them rules out a fourth, the fourth doesn't hold
inside_one : (h f s t : Bool) → (h ≡ true → t ≡ false) → (f ≡ true → t ≡ false) → (s ≡ true → t ≡ false) → not (h || f || s) ≡ false → t ≡ false
inside_one true f s t a b c e = a refl
inside_one false true s t a b c e = b refl
inside_one false false true t a b c e = c refl
inside_one false false false t a b c e = absurd cc

not_any : (low h f s : Bool) → (low && not (h || f || s)) ≡ true → h ≡ false
not_any true true f s e = absurd cc
not_any false true f s e = absurd cc
not_any low false f s e = refl

low_where : (b : Bool) (end k : ℕ) → (nat_lt k end && b) ≡ true → k < end
low_where b end k is = grind (arith, nat_tests, is)

when_low : (b : Bool) (end k : ℕ) → k < end → (nat_lt k end && not b) ≡ false → not b ≡ false
when_low b end k low isnt = grind (arith, nat_tests, low, isnt)

module _ (z : Inside) (sound : IsSound z) (now : Frames) (view : frames_of z ≡ now) (free : set.FinSet nat_cmp) (is_free : free ≡ z.free.members) where
  abbrev outside : ℕ → ℕ → Bool
  outside = is_outside (set.contains z.held.members) (set.contains free) (set.contains z.candidates.sources.members)

  as_seen : (k : ℕ) → leaving_at now.states k ≡ is_leaving_state (slice_get (seen z.held.members z.kept.items) k)
  as_seen k = ap (λ (frames : Frames). leaving_at frames.states k) (sym view)

  held_seen : (k : ℕ) → set.contains z.held.members k ≡ true → leaving_at now.states k ≡ false
  held_seen k held =
      as_seen k ∙ ap is_leaving_state (seen_get (set.contains z.held.members) z.kept.items k ∙ ap (λ b. seen_state b (slice_get z.kept.items k)) held)
      ∙ not_held (slice_get z.kept.items k)

  -- a frame in one of the three sets is left by none, and past the end there are no frames
  not_left : (end k : ℕ) → end ≡ length now.states → outside end k ≡ false → leaving_at now.states k ≡ false
  not_left end k all isnt = elim (leb_tells end k) [
    | inl past ↦ ap is_leaving_state (slice_get_past now.states k (omega (arith, past.1, all)))
    | inr low ↦ inside_one (set.contains z.held.members k) (set.contains free k) (set.contains z.candidates.sources.members k) (leaving_at now.states k) (held_seen k)
        (λ e. as_seen k ∙ not_free (slice_get (seen z.held.members z.kept.items) k) (sym (ap (λ (s : set.FinSet nat_cmp). set.contains s k) is_free ∙ sound.free k) ∙ e))
        (λ e. as_seen k ∙ not_resting (slice_get (seen z.held.members z.kept.items) k) (true_at z.movable.items k) (sym (sound.sources k) ∙ e))
        (when_low (set.contains z.held.members k || set.contains free k || set.contains z.candidates.sources.members k) end k low.1 isnt)
  ]

  -- a frame in none of the sets is one of the zone's
  pub within_kept : (end k : ℕ) → end ≡ length now.states → outside end k ≡ true → k < length z.kept.items
  within_kept end k all is =
      let low = low_where (not (set.contains z.held.members k || set.contains free k || set.contains z.candidates.sources.members k)) end k is in
      omega (arith, low, all, frames_kept z sound view)

  -- the state of a frame in none of the sets is seen as it is kept
  kept_as_is : (end k : ℕ) → outside end k ≡ true → leaving_at now.states k ≡ is_leaving_state (slice_get z.kept.items k)
  kept_as_is end k is =
      let unheld : set.contains z.held.members k ≡ false = not_any (nat_lt k end) (set.contains z.held.members k) (set.contains free k) (set.contains z.candidates.sources.members k) is in
      as_seen k ∙ ap is_leaving_state (seen_get (set.contains z.held.members) z.kept.items k ∙ ap (λ b. seen_state b (slice_get z.kept.items k)) unheld)

  module _ (from next end : ℕ) (all : end ≡ length now.states) (so_far : (k : ℕ) → from ≤ k → k < next → leaving_at now.states k ≡ false) where
    pub none_left : NoneFrom (outside end) next → NoneFrom (leaving_at now.states) from
    none_left none k low = elim (leb_tells next k) [
      | inl more ↦ not_left end k all (none k more.1)
      | inr before ↦ so_far k low before.1
    ]

    pub all_left : end ≤ next → NoneFrom (leaving_at now.states) from
    all_left reached k low = elim (leb_tells next k) [
      | inl past ↦ ap is_leaving_state (slice_get_past now.states k (omega (arith, past.1, reached, all)))
      | inr before ↦ so_far k low before.1
    ]

    module _ (frame : ℕ) (is : IsFrom (outside end) next frame) (kept : FrameState ℕ) (reads : slice_get z.kept.items frame ≡ Some kept) (leaves : Bool) (tells : leaves ≡ is_leaving_state (Some kept)) where
      before_frame : (k : ℕ) → from ≤ k → k < frame → leaving_at now.states k ≡ false
      before_frame k low less = elim (leb_tells next k) [
        | inl more ↦ not_left end k all (is.between k more.1 less)
        | inr before ↦ so_far k low before.1
      ]

      told : leaving_at now.states frame ≡ leaves
      told = kept_as_is end frame is.passes ∙ ap is_leaving_state reads ∙ sym tells

      pub left_here : from ≤ next → leaves ≡ true → IsFrom (leaving_at now.states) from frame
      left_here start left = record { least = omega (arith, start, is.least); passes = told ∙ left; between = before_frame }

      pub not_here : leaves ≡ false → (k : ℕ) → from ≤ k → k < frame + 1 → leaving_at now.states k ≡ false
      not_here stays k low less = elim (leb_tells frame k) [
        | inl same ↦ (let at : k ≡ frame = omega (arith, same.1, less) in ap (leaving_at now.states) at ∙ told ∙ stays)
        | inr before ↦ before_frame k low before.1
      ]
