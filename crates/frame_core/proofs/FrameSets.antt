-- Sets of frames of which so many frames change.
use Rattle.std.proofs.Common.{◌≡◌, ℕ, zero, suc, ◌+◌, ◌-◌, ◌<◌, ◌≤◌, Bool, true, false, ◌⊎◌, inl, inr, List, [], ◌∷◌, ◌++◌, length, take, drop, get_or, replicate, refl, sym, ap, subst, ◌∙◌, arith}
use Rattle.std.specs.Prelude.{◌↔◌, not, IsTrue}
use Rattle.std.specs.List.{list_all}
use Rattle.std.proofs.lemmas.Bool.{true≢false}
use Rattle.std.proofs.lemmas.List.{get_or-append-add, get_or_append_left, get_or-drop, get_or_past, get_or-replicate, get_or-take, length-replicate, take_at}
use Rattle.std.proofs.lemmas.Option.{unwrap_or-slice_get}
use Rattle.std.proofs.lemmas.Bool.{cases_lt}
use Rattle.row_core.specs.Parts.{part, spliced}
use Rattle.row_core.proofs.Lists.{front_long, rest_stays, spliced_long}
use Rattle.frame_core.specs.FrameSet.{has_frame, HasEach, HasNow}

module _ {X : Type 0} (xs ys : List X) (d : X) where
  -- what stands before this place is the same
  pub same_before : (at i : ℕ) → take at xs ≡ take at ys → i < at → get_or xs i d ≡ get_or ys i d
  same_before at i same before = sym (get_or-take at xs i d before) ∙ ap (λ (l : List X). get_or l i d) same ∙ get_or-take at ys i d before

  -- what stands from this place on is the same
  pub same_after : (at i : ℕ) → drop at xs ≡ drop at ys → at ≤ i → get_or xs i d ≡ get_or ys i d
  same_after at i same after =
      let sum : at + (i - at) ≡ i = omega arith in
      ap (λ (k : ℕ). get_or xs k d) (sym sum) ∙ sym (get_or-drop at xs (i - at) d) ∙ ap (λ (l : List X). get_or l (i - at) d) same ∙ get_or-drop at ys (i - at) d ∙ ap (λ (k : ℕ). get_or ys k d) sum

-- so many frames are in the set now, or none of them is
module _ (set : List Bool) (first frames : ℕ) (within : first + frames ≤ length set) (has : Bool) where
  abbrev pub changed : List Bool
  changed = spliced set first frames (replicate frames has)

  pub changed_long : length changed ≡ length set
  changed_long = spliced_long set first frames within (replicate frames has) (length-replicate frames has)

  changed_each : HasEach changed first frames has
  changed_each frame least most =
      let at : frame ≡ length (take first set) + (frame - first) = omega (arith, least, front_long set first frames within) in
      unwrap_or-slice_get changed frame false
      ∙ ap (λ (k : ℕ). get_or changed k false) at
      ∙ get_or-append-add (take first set) (replicate frames has ++ drop (first + frames) set) (frame - first) false
      ∙ get_or_append_left (replicate frames has) (drop (first + frames) set) false (frame - first) (omega (arith, least, most, length-replicate frames has))
      ∙ get_or-replicate frames (frame - first) has false (omega (arith, least, most))

  others_stay : (frame : ℕ) → (frame < first) ⊎ (first + frames ≤ frame) → get_or changed frame false ≡ get_or set frame false
  others_stay frame (inl before) = same_before changed set false first frame (take_at (take first set) (replicate frames has ++ drop (first + frames) set) first (front_long set first frames within)) before
  others_stay frame (inr after) = same_after changed set false (first + frames) frame (rest_stays set first frames within (replicate frames has) (length-replicate frames has)) after

  pub has_now : (new : List Bool) → new ≡ changed → HasNow set new first frames has
  has_now new is = subst (λ (l : List Bool). HasNow set l first frames has) (sym is) (record {
    each = changed_each;
    others = λ frame beside. unwrap_or-slice_get changed frame false ∙ others_stay frame beside ∙ sym (unwrap_or-slice_get set frame false);
  })

-- a part in which each frame is
pub part_each : (set : List Bool) (first frames : ℕ) (has : Bool) → first + frames ≤ length set → part set first frames ≡ replicate frames has → HasEach set first frames has
part_each set first frames has within is frame least most =
    let at : first + (frame - first) ≡ frame = omega (arith, least) in
    let less : frame - first < frames = omega (arith, least, most) in
    unwrap_or-slice_get set frame false
    ∙ ap (λ (k : ℕ). get_or set k false) (sym at)
    ∙ sym (get_or-drop first set (frame - first) false)
    ∙ sym (get_or-take frames (drop first set) (frame - first) false less)
    ∙ ap (λ (l : List Bool). get_or l (frame - first) false) is
    ∙ get_or-replicate frames (frame - first) has false less

-- the empty set
pub none_in : (n frame : ℕ) → has_frame (replicate n false) frame ≡ false
none_in n frame = by_order (cases_lt frame n)
  where
    by_order : (frame < n) ⊎ (n ≤ frame) → has_frame (replicate n false) frame ≡ false
    by_order (inl below) = unwrap_or-slice_get (replicate n false) frame false ∙ get_or-replicate n frame false false below
    by_order (inr past) = unwrap_or-slice_get (replicate n false) frame false ∙ get_or_past (replicate n false) frame false (omega (arith, past, length-replicate n false))

-- whether no frame is in a set
none_there : (set : List Bool) → list_all not set ≡ true → (frame : ℕ) → has_frame set frame ≡ false
none_there [] all frame = refl
none_there (true ∷ set) all frame = absurd (true≢false (sym all))
none_there (false ∷ set) all zero = refl
none_there (false ∷ set) all (suc frame) = none_there set all frame

tells_none : (set : List Bool) → ((frame : ℕ) → has_frame set frame ≡ false) → list_all not set ≡ true
tells_none [] none = refl
tells_none (true ∷ set) none = absurd (true≢false (none 0))
tells_none (false ∷ set) none = tells_none set (λ frame. none (suc frame))

pub none_tells : (set : List Bool) → IsTrue (list_all not set) ↔ ((frame : ℕ) → has_frame set frame ≡ false)
none_tells set = (none_there set, tells_none set)
