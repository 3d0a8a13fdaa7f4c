-- Each placement of a zone's pages leaves the same number of frames of unmarked pageblocks free.
use Rattle.std.proofs.Common.{◌≡◌, ◌≢◌, ℕ, zero, suc, ◌+◌, ◌-◌, ◌*◌, ◌/◌, ◌^◌, ◌<◌, ◌≤◌, Bool, true, false, not, inl, inr, refl, sym, ap, ◌∙◌, arith}
use Rattle.std.specs.Prelude.{Option, Some, None, is_some, length, nat_eq, ◌&&◌, ◌||◌}
use Rattle.std.specs.FinMap as map
use Rattle.std.specs.FinSet as set
use Rattle.std.proofs.lemmas.Bool.{and_right, eq-eqb, eqb-true, false_from_ne_true}
use Rattle.std.proofs.lemmas.Bool.Decides.{eqb_tells}
use Rattle.frame_core.proofs.Searches.{count_same, count_more, count_none, count_from_same, none_some, some_one}
use Rattle.frame_core.specs.Below.{one_if, count_below, count_from, some_below}
use Rattle.frame_core.specs.Moves.{out}
use Rattle.state_core.specs.declared.placement.Placement.{Placement}
use Rattle.state_core.specs.declared.placement.Placement.TheVariants.{At, Moving}
use Rattle.state_core.specs.Valid.{IsValidZone}
use Rattle.state_core.specs.Packed.{IsPacked, IsPlacement, is_place, frame_of, places_now, is_left_free, is_unmarked, unmarked_free, whole_runs, free_runs, left_whole, left_runs}
use Rattle.state_core.specs.Pairs.{is_marked}
use Rattle.state_core.specs.ZoneState.{ZoneState, frame_count, takes_up, is_used, is_held, is_free, is_whole}
use Rattle.state_core.proofs.Filled.{packed_order, order_bounded, runs_bounded, marked_at, whole_by_marks, all_whole}
use Rattle.state_core.proofs.Holding.{at_rest}

-- Of the counted frames, some are used and some are held, none is both, and the rest is free.

three : (c u h : Bool) → (u ≡ true → h ≡ false) → one_if (c && (not u && not h)) + one_if (c && u) + one_if (c && h) ≡ one_if c
three c u h apart = grind (arith, apart)

count_three : (c u h : ℕ → Bool) (n : ℕ) → ((k : ℕ) → k < n → u k ≡ true → h k ≡ false) →
    count_below (λ k. c k && (not (u k) && not (h k))) n + count_below (λ k. c k && u k) n + count_below (λ k. c k && h k) n ≡ count_below c n
count_three c u h zero apart = refl
count_three c u h (suc n) apart = omega (arith, three (c n) (u n) (h n) (apart n (omega arith)), count_three c u h n (λ k l. apart k (omega arith)))

-- There are as many counted frames with a page as pages with a counted frame.

abbrev stands_counted : (ℕ → Bool) → Option ℕ → Bool
stands_counted counted None = false
stands_counted counted (Some frame) = counted frame

place_is : (o : Option ℕ) (frame : ℕ) → is_place o frame ≡ true → o ≡ Some frame
place_is None frame e = cc
place_is (Some f) frame e = ap Some (sym (eqb-true frame f e))

or_skip : (a b : Bool) → a ≡ false → (a || b) ≡ b
or_skip a b e = grind (arith, e)

shut : (c a b : Bool) → c ≡ false → (c && a) ≡ (c && b)
shut c a b e = grind (arith, e)

module _ (place : ℕ → Option ℕ) (counted : ℕ → Bool) (size : ℕ)
    (within : (page frame : ℕ) → place page ≡ Some frame → frame < size)
    (apart : (p q frame : ℕ) → place p ≡ Some frame → place q ≡ Some frame → p ≡ q) where
  abbrev taken_by : ℕ → ℕ → Bool
  taken_by m frame = counted frame && some_below (λ page. is_place (place page) frame) m

  untaken : (m frame : ℕ) → place m ≡ Some frame → taken_by m frame ≡ false
  untaken m frame at = and_right (counted frame) _ (none_some (λ page. is_place (place page) frame) m (λ q h. false_from_ne_true _ (λ e.
      (let same : q ≡ m = apart q m frame (place_is (place q) frame e) at in absurd (omega arith)))))

  away : (m frame g : ℕ) → place m ≡ Some g → frame ≢ g → taken_by (suc m) frame ≡ taken_by m frame
  away m frame g at ne = ap (λ b. counted frame && b) (or_skip (is_place (place m) frame) _ (ap (λ (o : Option ℕ). is_place o frame) at ∙ no_test)) where
    no_test : nat_eq frame g ≡ false
    no_test = elim (eqb_tells frame g) [ inl same ↦ absurd (ne same.1) | inr other ↦ other.0 ]

  one_more : (m : ℕ) (o : Option ℕ) → place m ≡ o → count_below (taken_by (suc m)) size ≡ one_if (stands_counted counted o) + count_below (taken_by m) size
  one_more m None at =
      let skip = count_same (taken_by (suc m)) (taken_by m) size
      (λ frame h. ap (λ b. counted frame && b) (or_skip (is_place (place m) frame) _ (ap (λ (o : Option ℕ). is_place o frame) at))) in
      omega arith
  one_more m (Some g) at = by_counted (counted g) refl where
    by_counted : (c : Bool) → counted g ≡ c → count_below (taken_by (suc m)) size ≡ one_if (counted g) + count_below (taken_by m) size
    by_counted true is =
        let test : is_place (place m) g ≡ true = ap (λ (o : Option ℕ). is_place o g) at ∙ eq-eqb g g refl in
        let now : taken_by (suc m) g ≡ true = λ i. is i && (test i || some_below (λ page. is_place (place page) g) m) in
        let one : one_if (counted g) ≡ 1 = ap one_if is in
        omega (arith, count_more (taken_by m) (taken_by (suc m)) size g (within m g at) (untaken m g at) now (λ q ne. away m q g at ne))
    by_counted false is =
        let none : one_if (counted g) ≡ 0 = ap one_if is in
        omega (
          arith,
          count_same (taken_by (suc m)) (taken_by m) size (λ frame h. elim (eqb_tells frame g) [
            | inl same ↦ shut (counted frame) _ _ (ap counted same.1 ∙ is)
            | inr other ↦ away m frame g at other.1
          ]),
        )

  frames_of_pages : (m : ℕ) → count_below (taken_by m) size ≡ count_below (λ page. stands_counted counted (place page)) m
  frames_of_pages zero = count_none (taken_by zero) size (λ frame h. and_right (counted frame) false refl)
  frames_of_pages (suc m) = omega (arith, one_more m (place m) refl, frames_of_pages m)

takes_place : (o : Option Placement) (frame : ℕ) → ((serial source target : ℕ) → o ≡ Some (Moving serial source target) → ⊥) → takes_up o frame ≡ is_place (frame_of o) frame
takes_place None frame rest = refl
takes_place (Some (At f)) frame rest = refl
takes_place (Some (Moving serial source target)) frame rest = absurd (rest serial source target refl)

frame_is : (o : Option Placement) (frame : ℕ) → frame_of o ≡ Some frame → takes_up o frame ≡ true
frame_is None frame e = cc
frame_is (Some (At f)) frame e = let same : f ≡ frame = cc in eq-eqb frame f (sym same)
frame_is (Some (Moving serial source target)) frame e = cc

one_frame : (f g : ℕ) → Some (At f) ≡ Some (At g) → f ≡ g
one_frame f g e = cc

one_place : (f g : ℕ) → Some f ≡ Some g → f ≡ g
one_place f g e = cc

frame_at : (o : Option Placement) (frame : ℕ) → frame_of o ≡ Some frame → o ≡ Some (At frame)
frame_at None frame e = cc
frame_at (Some (At f)) frame e = let same : f ≡ frame = cc in ap (λ (g : ℕ). Some (At g)) same
frame_at (Some (Moving serial source target)) frame e = cc

place_set : (o : Option ℕ) (frame : ℕ) → o ≡ Some frame → is_place o frame ≡ true
place_set o frame e = ap (λ (p : Option ℕ). is_place p frame) e ∙ eq-eqb frame frame refl

both_or_neither : (a b : Bool) → (a ≡ true → b ≡ true) → (b ≡ true → a ≡ true) → a ≡ b
both_or_neither true b to from = sym (to refl)
both_or_neither false true to from = from refl
both_or_neither false false to from = refl

if_left : (m a b : Bool) → (m ≡ true → a ≡ b) → (m && a) ≡ (m && b)
if_left true a b same = same refl
if_left false a b same = refl

module _ (v : ZoneState) (law : IsValidZone v) (none : length (out v.records) ≡ 0) (place : ℕ → Option ℕ) (placed : IsPlacement v place) where
  abbrev now : ℕ → Option ℕ
  now = places_now v

  -- the frame of a page is in an unmarked pageblock in both placements or in neither
  same_side : (page : ℕ) (o : Option ℕ) (p : Option Placement) → place page ≡ o → map.get v.placement page ≡ p → stands_counted (is_unmarked v) o ≡ stands_counted (is_unmarked v) (frame_of p)
  same_side page None None at was = refl
  same_side page None (Some p) at was = let bad : false ≡ true = sym (ap is_some at) ∙ placed.same_pages page ∙ ap is_some was in cc
  same_side page (Some f) None at was = let bad : true ≡ false = sym (ap is_some at) ∙ placed.same_pages page ∙ ap is_some was in cc
  same_side page (Some f) (Some (Moving serial source target)) at was = absurd (at_rest v law none page serial source target was)
  same_side page (Some f) (Some (At g)) at was = by_mark (is_marked v f) (is_marked v g) refl refl where
    by_mark : (a b : Bool) → is_marked v f ≡ a → is_marked v g ≡ b → is_unmarked v f ≡ is_unmarked v g
    by_mark true b is_f is_g =
        let same : g ≡ f = one_frame g f (sym was ∙ (placed.marked page f is_f).0 at) in
        ap (is_unmarked v) (sym same)
    by_mark false true is_f is_g =
        let same : f ≡ g = one_place f g (sym at ∙ (placed.marked page g is_g).1 was) in
        ap (is_unmarked v) same
    by_mark false false is_f is_g = ap not is_f ∙ sym (ap not is_g)

  abbrev is_taken : (ℕ → Option ℕ) → ℕ → Bool
  is_taken at frame = some_below (λ page. is_place (at page) frame) (frame_count v)

  used_now : (frame : ℕ) → is_used v frame ≡ is_taken now frame
  used_now frame = λ i. some_below (λ page. takes_place (map.get v.placement page) frame (at_rest v law none page) i) (frame_count v)

  taken_same : count_below (λ frame. is_unmarked v frame && is_taken place frame) (frame_count v) ≡ count_below (λ frame. is_unmarked v frame && is_taken now frame) (frame_count v)
  taken_same =
      frames_of_pages place (is_unmarked v) (frame_count v) placed.within placed.apart (frame_count v)
      ∙ count_same _ _ (frame_count v) (λ page h. same_side page (place page) (map.get v.placement page) refl refl)
      ∙ sym (frames_of_pages now (is_unmarked v) (frame_count v)
      (λ page frame e. law.pages.within page frame (frame_is _ frame e))
      (λ p q frame a b. law.pages.apart p q frame (frame_is _ frame a) (frame_is _ frame b)) (frame_count v))

  taken_clear : (at : ℕ → Option ℕ) → ((page frame : ℕ) → at page ≡ Some frame → is_held v frame ≡ false) → (frame : ℕ) → is_taken at frame ≡ true → is_held v frame ≡ false
  taken_clear at clear frame e = let one = some_one (λ page. is_place (at page) frame) (frame_count v) e in clear one.0 frame (place_is (at one.0) frame one.2)

  pub free_same : count_below (λ frame. is_unmarked v frame && is_left_free v place frame) (frame_count v) ≡ unmarked_free v
  free_same =
      let there = count_three (is_unmarked v) (is_taken place) (is_held v) (frame_count v) (λ k h. taken_clear place placed.clear k) in
      let here = count_three (is_unmarked v) (is_taken now) (is_held v) (frame_count v) (λ k h. taken_clear now (λ page frame e. law.pages.clear page frame (frame_is _ frame e)) k) in
      let seen : unmarked_free v ≡ count_below (λ frame. is_unmarked v frame && (not (is_taken now frame) && not (is_held v frame))) (frame_count v) =
      count_same _ _ (frame_count v) (λ frame h. ap (λ b. is_unmarked v frame && (not b && not (is_held v frame))) (used_now frame)) in
      let same = taken_same in
      omega arith

  -- a frame of a marked pageblock is free in both placements or in neither
  same_test : (page frame : ℕ) → is_marked v frame ≡ true → is_place (place page) frame ≡ is_place (now page) frame
  same_test page frame marked = both_or_neither _ _
      (λ e. place_set _ frame (ap frame_of ((placed.marked page frame marked).0 (place_is (place page) frame e))))
      (λ e. place_set _ frame ((placed.marked page frame marked).1 (frame_at _ frame (place_is (now page) frame e))))

  marked_same : (frame : ℕ) → is_marked v frame ≡ true → is_left_free v place frame ≡ is_free v frame
  marked_same frame marked = ap (λ b. not b && not (is_held v frame)) ((λ i. some_below (λ page. same_test page frame marked i) (frame_count v)) ∙ sym (used_now frame))

  marked_whole_same : (block : ℕ) → (set.contains v.marked block && nat_eq (count_from (is_left_free v place) (512 * block) 512) 512) ≡ (set.contains v.marked block && is_whole v block)
  marked_whole_same block = if_left (set.contains v.marked block) _ _ (λ marked.
      ap (λ n. nat_eq n 512) (count_from_same (is_left_free v place) (is_free v) (512 * block) 512 (λ k low high.
      let at : 512 * block + (k - 512 * block) ≡ k = omega arith in
      marked_same k (sym (ap (is_marked v) at) ∙ marked_at v block (k - 512 * block) (omega arith) ∙ marked))))

  -- no placement has more free runs than a packed zone, and none has more whole pageblocks
  pub runs_best : IsPacked v → (order : ℕ) → order ≤ 9 → left_runs v place (2 ^ order) ≤ free_runs v (2 ^ order)
  runs_best packed order h =
      let bound = order_bounded (λ frame. is_unmarked v frame && is_left_free v place frame) v.blocks order h in
      let same = ap (λ (n : ℕ). n / 2 ^ order) free_same in
      let mine = packed_order v order packed h in
      omega arith

  pub whole_best : IsPacked v → left_whole v place ≤ count_below (is_whole v) v.blocks
  whole_best packed =
      let bound = runs_bounded 512 1 (omega arith) (λ frame. is_unmarked v frame && is_left_free v place frame) v.blocks in
      let blocks : (512 * v.blocks) / 512 ≡ v.blocks = omega arith in
      let runs = ap (whole_runs (λ frame. is_unmarked v frame && is_left_free v place frame) 512) blocks in
      let same = ap (λ (n : ℕ). n / 512) free_same in
      let there = whole_by_marks v (is_left_free v place) in
      let marked = count_same _ _ v.blocks (λ block h. marked_whole_same block) in
      let here = all_whole v packed in
      omega arith

-- the pages of a zone are placed

frame_some : (o : Option Placement) → ((serial source target : ℕ) → o ≡ Some (Moving serial source target) → ⊥) → is_some (frame_of o) ≡ is_some o
frame_some None rest = refl
frame_some (Some (At f)) rest = refl
frame_some (Some (Moving serial source target)) rest = absurd (rest serial source target refl)

pub placed_now : (v : ZoneState) → IsValidZone v → length (out v.records) ≡ 0 → IsPlacement v (places_now v)
placed_now v law none = record {
  same_pages = λ page. frame_some (map.get v.placement page) (at_rest v law none page);
  within = λ page frame e. law.pages.within page frame (frame_is _ frame e);
  apart = λ p q frame a b. law.pages.apart p q frame (frame_is _ frame a) (frame_is _ frame b);
  clear = λ page frame e. law.pages.clear page frame (frame_is _ frame e);
  marked = λ page frame m. (λ e. frame_at _ frame e, λ e. ap frame_of e);
}
