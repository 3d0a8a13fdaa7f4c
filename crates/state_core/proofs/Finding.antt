-- What a zone's searches for a free frame and for an unused page number find.
use Rattle.std.proofs.Common.{subst, ◌≡◌, refl, ◌∙◌, ap, sym, false, not, ◌&&◌, if◌then◌else◌, Option, ℕ, zero, suc, ◌+◌, ◌-◌, ◌*◌, ◌/◌, ◌<◌, ◌≤◌, ◌⊎◌, inl, inr, true, arith, Bool, Some, None, IsSome, is_some, is_none, unwrap_or, le-ltb}
use Rattle.std.specs.Prelude.{nat_lt}
use Rattle.std.specs.Option.{option_or}
use Rattle.std.specs.FinMap.{get}
use Rattle.std.proofs.lemmas.Bool.{and_from, and_parts, both_ways, not-true, not-false, true_from_ne_false}
use Rattle.std.proofs.lemmas.Bool.Decides.{leb_tells}
use Rattle.frame_core.proofs.Searches.{below_suc, lowest_some, lowest_before, no_lowest, count_all, count_none, count_some, none_some, some_none, some_one}
use Rattle.frame_core.specs.Below.{count_below, count_from, some_below}
use Rattle.state_core.specs.Valid.{IsValidZone}
use Rattle.state_core.specs.ZoneState.{ZoneState, frame_count, free_in_block, is_free, is_whole, is_begun, has_unmovable, is_emptiest, lowest_free_where, frame_for, frame_with_unmovable, frame_without_unmovable, lowest_free_frame, lowest_unused_page}
use Rattle.state_core.proofs.Facts.{none_is, some_is}

-- where a frame is free, a page number is unused
pub unused_left : (v : ZoneState) → IsValidZone v → IsSome (lowest_free_frame v) → lowest_unused_page v ≡ None → ⊥
unused_left v law some none =
    let found = some_is (lowest_free_frame v) some in
    let free = lowest_some (is_free v) (frame_count v) found.0 found.1 in
    let all : count_below (λ page. is_some (get v.placement page)) (frame_count v) ≡ frame_count v =
    count_all (λ page. is_some (get v.placement page)) (frame_count v) (λ page h. not-false _ (no_lowest (λ q. is_none (get v.placement q)) (frame_count v) page none h)) in
    let one = count_some (is_free v) (frame_count v) found.0 free.0 free.1 in
    omega (arith, law.sum, all, one)

-- where a frame is free, the search for the lowest one finds one
pub some_lowest : (v : ZoneState) (frame : ℕ) → is_free v frame ≡ true → frame < frame_count v → IsSome (lowest_free_frame v)
some_lowest v frame free within = true_from_ne_false _ (λ e. both_ways _ (no_lowest (is_free v) (frame_count v) frame (none_is _ e) within) free)

-- the lowest unused page number is unused, and each below is in use
pub unused_is : (v : ZoneState) (page : ℕ) → lowest_unused_page v ≡ Some page → (page < frame_count v) × (get v.placement page ≡ None) × ((q : ℕ) → q < page → is_some (get v.placement q) ≡ true)
unused_is v page e =
    let found = lowest_some (λ q. is_none (get v.placement q)) (frame_count v) page e in
    (found.0, none_is _ (not-true _ found.1), λ q h. not-false _ (lowest_before (λ r. is_none (get v.placement r)) (frame_count v) page q e h))

-- the greatest of some numbers
pub greatest : (f : ℕ → ℕ) (n : ℕ) → (k : ℕ) × (k < suc n) × ((j : ℕ) → j < suc n → f j ≤ f k)
greatest f zero = (0, omega arith, λ j h. let at : j ≡ 0 = omega (arith, h) in omega (arith, ap f at))
greatest f (suc n) =
    let rest = greatest f n in
    elim (leb_tells (f (suc n)) (f rest.0)) [
      | inl more ↦ (
        rest.0,
        omega (arith, rest.1),
        λ j h. elim (below_suc j (suc n) h) [
          | inl under ↦ rest.2 j under
          | inr at ↦ omega (arith, ap f at, more.1)
        ],
      )
      | inr fewer ↦ (
        suc n,
        omega arith,
        λ j h. elim (below_suc j (suc n) h) [
          | inl under ↦ omega (arith, rest.2 j under, fewer.1)
          | inr at ↦ omega (arith, ap f at)
        ],
      )
    ]

-- a frame that passes is counted in its pageblock, and a pageblock that has one counted has a frame that passes
pub counted_here : (p : ℕ → Bool) (frame : ℕ) → p frame ≡ true → 0 < count_from p (512 * (frame / 512)) 512
unfolding count_from
counted_here p frame passes =
    let at : 512 * (frame / 512) + (frame - 512 * (frame / 512)) ≡ frame = omega arith in
    count_some (λ k. p (512 * (frame / 512) + k)) 512 (frame - 512 * (frame / 512)) (omega arith) (ap p at ∙ passes)

one_below : (p : ℕ → Bool) (n : ℕ) → 0 < count_below p n → (k : ℕ) × (k < n) × (p k ≡ true)
one_below p n some = by (some_below p n) refl where
  by : (b : Bool) → some_below p n ≡ b → (k : ℕ) × (k < n) × (p k ≡ true)
  by true e = some_one p n e
  by false e = absurd (omega (arith, some, count_none p n (some_none p n e)))

pub one_counted : (p : ℕ → Bool) (block : ℕ) → 0 < count_from p (512 * block) 512 → (frame : ℕ) × (frame / 512 ≡ block) × (p frame ≡ true)
unfolding count_from
one_counted p block some = let one = one_below (λ k. p (512 * block + k)) 512 some in (512 * block + one.0, omega (arith, one.1), one.2)

-- a search that found a frame that is free
abbrev pub IsFound : ZoneState → Option ℕ → Type 0
IsFound v found = (frame : ℕ) × (found ≡ Some frame) × (frame < frame_count v) × (is_free v frame ≡ true)

module _ (v : ZoneState) where
  -- each frame that the searches find is free
  found_free : (passes : ℕ → Bool) (frame : ℕ) → lowest_free_where v passes ≡ Some frame → (frame < frame_count v) × (is_free v frame ≡ true)
  found_free passes frame e =
      let found = lowest_some (λ k. is_free v k && passes (k / 512)) (frame_count v) frame e in
      (found.0, (and_parts (is_free v frame) (passes (frame / 512)) found.1).0)

  or_found : (o r : Option ℕ) → ((frame : ℕ) → o ≡ Some frame → (frame < frame_count v) × (is_free v frame ≡ true)) → IsFound v r → IsFound v (option_or o r)
  or_found None r free found = found
  or_found (Some frame) r free found = (frame, refl, (free frame refl).0, (free frame refl).1)

  -- where a free frame's pageblock passes, the search finds one
  where_found : (passes : ℕ → Bool) (frame : ℕ) → frame < frame_count v → is_free v frame ≡ true → passes (frame / 512) ≡ true → IsFound v (lowest_free_where v passes)
  where_found passes frame within free suits = by (lowest_free_where v passes) refl where
    by : (o : Option ℕ) → lowest_free_where v passes ≡ o → IsFound v (lowest_free_where v passes)
    by None e = absurd (both_ways _ (no_lowest (λ k. is_free v k && passes (k / 512)) (frame_count v) frame e within) (and_from (is_free v frame) (passes (frame / 512)) free suits))
    by (Some found) e = let is = found_free passes found e in (found, e, is.0, is.1)

  lowest_found : IsSome (lowest_free_frame v) → IsFound v (lowest_free_frame v)
  lowest_found some =
      let found = some_is (lowest_free_frame v) some in
      let is = lowest_some (is_free v) (frame_count v) found.0 found.1 in
      (found.0, found.1, is.0, is.1)

  -- the emptiest pageblock has a free frame where any has
  emptiest_found : (frame : ℕ) → frame < frame_count v → is_free v frame ≡ true → IsFound v (lowest_free_where v (is_emptiest v))
  emptiest_found frame within free =
      let blocks : suc (v.blocks - 1) ≡ v.blocks = omega (arith, within) in
      let most = greatest (free_in_block v) (v.blocks - 1) in
      let low : most.0 < v.blocks = omega (arith, most.1, blocks) in
      let each = λ (other : ℕ) (h : other < v.blocks). most.2 other (omega (arith, h, blocks)) in
      let some = counted_here (is_free v) frame free in
      let one = one_counted (is_free v) most.0 (omega (arith, some, each (frame / 512) (omega (arith, within)))) in
      let none : is_emptiest v most.0 ≡ true = ap not (none_some (λ other. nat_lt (free_in_block v most.0) (free_in_block v other)) v.blocks (λ other h. le-ltb (free_in_block v most.0) (free_in_block v other) (each other h))) in
      where_found (is_emptiest v) one.0 (omega (arith, one.1, low)) one.2 (ap (is_emptiest v) one.1 ∙ none)

  pub frame_for_found : (unmovable : Bool) → IsSome (lowest_free_frame v) → IsFound v (frame_for v unmovable)
  frame_for_found unmovable some = by v.apart unmovable where
    by : (apart unmovable : Bool) → IsFound v (if not apart then lowest_free_frame v else if unmovable then frame_with_unmovable v else frame_without_unmovable v)
    by false unmovable = lowest_found some
    by true true = let low = lowest_found some in or_found (lowest_free_where v (has_unmovable v)) _ (found_free (has_unmovable v)) (emptiest_found low.0 low.2 low.3)
    by true false = or_found (lowest_free_where v (is_begun v)) _ (found_free (is_begun v)) (or_found (lowest_free_where v (is_whole v)) _ (found_free (is_whole v)) (lowest_found some))

  either : (o r : Option ℕ) (frame : ℕ) → option_or o r ≡ Some frame → (o ≡ Some frame) ⊎ (r ≡ Some frame)
  either None r frame e = inr e
  either (Some x) r frame e = inl e

  -- the frame that a page is mapped to is free
  pub frame_for_is : (unmovable : Bool) (frame : ℕ) → frame_for v unmovable ≡ Some frame → (frame < frame_count v) × (is_free v frame ≡ true)
  frame_for_is unmovable frame = by v.apart unmovable where
    low : lowest_free_frame v ≡ Some frame → (frame < frame_count v) × (is_free v frame ≡ true)
    low e = lowest_some (is_free v) (frame_count v) frame e

    by : (apart unmovable : Bool) → (if not apart then lowest_free_frame v else if unmovable then frame_with_unmovable v else frame_without_unmovable v) ≡ Some frame → (frame < frame_count v) × (is_free v frame ≡ true)
    by false unmovable e = low e
    by true true e = elim (either (lowest_free_where v (has_unmovable v)) (lowest_free_where v (is_emptiest v)) frame e) [
      | inl there ↦ found_free (has_unmovable v) frame there
      | inr other ↦ found_free (is_emptiest v) frame other
    ]
    by true false e = elim (either (lowest_free_where v (is_begun v)) (option_or (lowest_free_where v (is_whole v)) (lowest_free_frame v)) frame e) [
      | inl there ↦ found_free (is_begun v) frame there
      | inr other ↦
          elim (either (lowest_free_where v (is_whole v)) (lowest_free_frame v) frame other) [
            | inl whole ↦ found_free (is_whole v) frame whole
            | inr any ↦ low any
          ]
    ]

  -- a page is mapped to no frame just where none is free
  pub frame_for_none : (unmovable : Bool) → is_none (frame_for v unmovable) ≡ is_none (lowest_free_frame v)
  frame_for_none unmovable = by (frame_for v unmovable) (lowest_free_frame v) refl refl where
    by : (o r : Option ℕ) → frame_for v unmovable ≡ o → lowest_free_frame v ≡ r → is_none (frame_for v unmovable) ≡ is_none (lowest_free_frame v)
    by None None e f = ap is_none e ∙ sym (ap is_none f)
    by (Some x) (Some y) e f = ap is_none e ∙ sym (ap is_none f)
    by (Some x) None e f = let is = frame_for_is unmovable x e in absurd (both_ways _ (no_lowest (is_free v) (frame_count v) x f is.0) is.1)
    by None (Some y) e f = let found = frame_for_found unmovable (ap is_some f) in let bad : None ≡ Some found.0 = sym e ∙ found.1 in cc

-- where a frame is free, so is the one that a page is mapped to
pub frame_for_free : (v : ZoneState) (unmovable : Bool) → IsSome (lowest_free_frame v) → (unwrap_or (frame_for v unmovable) 0 < frame_count v) × (is_free v (unwrap_or (frame_for v unmovable) 0) ≡ true)
frame_for_free v unmovable some =
    let found = frame_for_found v unmovable some in
    let named : unwrap_or (frame_for v unmovable) 0 ≡ found.0 = ap (λ (o : Option ℕ). unwrap_or o 0) found.1 in
    subst (λ (k : ℕ). (k < frame_count v) × (is_free v k ≡ true)) (sym named) (found.2, found.3)
