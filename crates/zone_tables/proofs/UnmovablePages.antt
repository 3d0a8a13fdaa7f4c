-- How many unmovable pages each pageblock has, after a page came, went or moved.
use Rattle.std.proofs.Common.{◌≡◌, ◌≢◌, ℕ, ◌+◌, ◌-◌, ◌*◌, ◌/◌, ◌<◌, ◌≤◌, Bool, true, false, List, length, inl, inr, refl, sym, ap, ◌∙◌, slice_index, ne_eqb, eq-eqb, arith}
use Rattle.std.specs.Prelude.{Some, nat_eq, slice_get, ◌&&◌}
use Rattle.std.specs.FinMap as map
use Rattle.std.specs.FinSet as set
use Rattle.std.proofs.Math.Bool.{and-false}
use Rattle.std.proofs.lemmas.Bool.{and_parts, both_ways, cases_Bool, not-true}
use Rattle.std.proofs.lemmas.Bool.Decides.{eqb_tells}
use Rattle.std.proofs.lemmas.Option.{get_or_from_slice_get}
use Rattle.frame_core.specs.Below.{count_below}
use Rattle.frame_core.proofs.Lists.{slice_get_set_same, slice_get_set_other}
use Rattle.frame_core.proofs.Searches.{count_more, count_most, count_same, count_some}
use Rattle.scan_core.specs.FrameCounts.{recounted}
use Rattle.scan_core.proofs.RunCounts.{length_recounted}
use Rattle.state_core.specs.declared.placement.Placement.TheVariants.{At, Moving}
use Rattle.state_core.specs.Pairs.{can_move}
use Rattle.state_core.specs.ZoneState.{ZoneState, frame_count, is_in_block, is_unmovable_in}
use Rattle.zone_tables.specs.Fits.{UnmovableFit}

-- counts of pages in pageblocks after one page came to a pageblock or went from it
module _ (p r : ℕ → ℕ → Bool) (page at n blocks : ℕ) (counts : List ℕ) (numbered : page < n) (low : at < blocks) (long : length counts ≡ blocks)
    (each : (block : ℕ) → block < blocks → slice_get counts block ≡ Some (count_below (p block) n)) (others : (block q : ℕ) → q ≢ page → r block q ≡ p block q) where
  elsewhere : (block : ℕ) → p block page ≡ r block page → count_below (p block) n ≡ count_below (r block) n
  elsewhere block same = count_same (p block) (r block) n (λ q h. elim (eqb_tells q page) [
    | inl here ↦ (ap (p block) here.1 ∙ same ∙ sym (ap (r block) here.1))
    | inr away ↦ sym (others block q away.1)
  ])

  off : (b c : Bool) (block : ℕ) → block ≢ at → p block page ≡ (b && nat_eq at block) → r block page ≡ (c && nat_eq at block) → p block page ≡ r block page
  off b c block away was is =
      let none = ne_eqb at block (λ e. away (sym e)) in
      was ∙ ap (λ t. b && t) none ∙ and-false b ∙ sym (is ∙ ap (λ t. c && t) none ∙ and-false c)

  at_block : (b : Bool) (f : ℕ → ℕ → Bool) → ((block : ℕ) → f block page ≡ (b && nat_eq at block)) → (block : ℕ) → block ≡ at → f block page ≡ (b && true)
  at_block b f is block here = is block ∙ ap (λ t. b && t) (eq-eqb at block (sym here))

  before : slice_index counts at ≡ count_below (p at) n
  before = get_or_from_slice_get counts at _ 0 (each at low)

  pub pages_counted : (was now : Bool) → ((block : ℕ) → p block page ≡ (was && nat_eq at block)) → ((block : ℕ) → r block page ≡ (now && nat_eq at block)) → (block : ℕ) → block < blocks → slice_get (recounted was now counts at) block ≡ Some (count_below (r block) n)
  pages_counted false true was is block h = elim (eqb_tells block at) [
    | inl here ↦ (let more = count_more (p at) (r at) n page numbered (at_block false p was at refl) (at_block true r is at refl) (others at) in
        let now : slice_index counts at + 1 ≡ count_below (r at) n = omega (arith, before, more) in
        slice_get_set_same counts at block (slice_index counts at + 1) here.1 (omega (arith, low, long)) ∙ ap Some (now ∙ ap (λ k. count_below (r k) n) (sym here.1)))
    | inr away ↦ (slice_get_set_other counts at block (slice_index counts at + 1) away.1 ∙ each block h ∙ ap Some (elsewhere block (off false true block away.1 (was block) (is block))))
  ]
  pages_counted true false was is block h = elim (eqb_tells block at) [
    | inl here ↦ (let more = count_more (r at) (p at) n page numbered (at_block false r is at refl) (at_block true p was at refl) (λ q ne. sym (others at q ne)) in
        let now : slice_index counts at - 1 ≡ count_below (r at) n = omega (arith, before, more) in
        slice_get_set_same counts at block (slice_index counts at - 1) here.1 (omega (arith, low, long)) ∙ ap Some (now ∙ ap (λ k. count_below (r k) n) (sym here.1)))
    | inr away ↦ (slice_get_set_other counts at block (slice_index counts at - 1) away.1 ∙ each block h ∙ ap Some (elsewhere block (off true false block away.1 (was block) (is block))))
  ]
  pages_counted true true was is block h = each block h ∙ ap Some (elsewhere block (was block ∙ sym (is block)))
  pages_counted false false was is block h = each block h ∙ ap Some (elsewhere block (was block ∙ sym (is block)))

module _ (v w : ZoneState) (page : ℕ) (counts : List ℕ) (fit : UnmovableFit counts v) (blocks : w.blocks ≡ v.blocks) (members : (q : ℕ) → q ≢ page → set.contains w.unmovable q ≡ set.contains v.unmovable q)
    (places : (q : ℕ) → q ≢ page → map.get w.placement q ≡ map.get v.placement q) where
  others_in : (block q : ℕ) → q ≢ page → is_unmovable_in w block q ≡ is_unmovable_in v block q
  others_in block q ne = λ i. members q ne i && is_in_block (places q ne i) block

  rest_of : (set.contains w.unmovable page ≡ true → (frame : ℕ) × (map.get w.placement page ≡ Some (At frame))) → (q : ℕ) → set.contains w.unmovable q ≡ true → (frame : ℕ) × (map.get w.placement q ≡ Some (At frame))
  rest_of here q e = elim (eqb_tells q page) [
    | inl same ↦ (let found = here (ap (set.contains w.unmovable) (sym same.1) ∙ e) in (found.0, ap (map.get w.placement) same.1 ∙ found.1))
    | inr away ↦ (let found = fit.rest q (sym (members q away.1) ∙ e) in (found.0, places q away.1 ∙ found.1))
  ]

  counted : (was now : Bool) (at : ℕ) → page < frame_count v → at < v.blocks → ((block : ℕ) → is_unmovable_in v block page ≡ (was && nat_eq at block)) → ((block : ℕ) → is_unmovable_in w block page ≡ (now && nat_eq at block))
      → (set.contains w.unmovable page ≡ true → (frame : ℕ) × (map.get w.placement page ≡ Some (At frame))) → UnmovableFit (recounted was now counts at) w
  counted was now at numbered low before after here = record {
    count = length_recounted was now counts at ∙ fit.count ∙ sym blocks;
    each = λ block h. pages_counted (is_unmovable_in v) (is_unmovable_in w) page at (frame_count v) v.blocks counts numbered low fit.count fit.each others_in was now before after block (omega (arith, h, blocks))
        ∙ ap (λ n. Some (count_below (is_unmovable_in w block) (512 * n))) (sym blocks);
    rest = rest_of here;
  }

  test_of : (z : ZoneState) (unmovable : Bool) (frame : ℕ) → set.contains z.unmovable page ≡ unmovable → map.get z.placement page ≡ Some (At frame) → (block : ℕ) → is_unmovable_in z block page ≡ (unmovable && nat_eq (frame / 512) block)
  test_of z unmovable frame is at block = λ i. is i && is_in_block (at i) block

  never : (z : ZoneState) → set.contains z.unmovable page ≡ false → (b : Bool) (at block : ℕ) → is_unmovable_in z block page ≡ (false && nat_eq at block)
  never z is b at block = ap (λ c. c && is_in_block (map.get z.placement page) block) is

  -- a page that isn't unmovable gets another place
  pub unmovable_moved : set.contains v.unmovable page ≡ false → set.contains w.unmovable page ≡ false → UnmovableFit counts w
  unmovable_moved was is = record {
    count = fit.count ∙ sym blocks;
    each = λ block h. fit.each block (omega (arith, h, blocks)) ∙ ap Some (count_same (is_unmovable_in v block) (is_unmovable_in w block) (frame_count v) (λ q l. elim (eqb_tells q page) [
      | inl same ↦ (ap (is_unmovable_in v block) same.1 ∙ never v was false 0 block ∙ sym (ap (is_unmovable_in w block) same.1 ∙ never w is false 0 block))
      | inr away ↦ sym (others_in block q away.1)
    ]) ∙ ap (λ n. count_below (is_unmovable_in w block) (512 * n)) (sym blocks));
    rest = rest_of (λ e. absurd (both_ways (set.contains w.unmovable page) is e));
  }

  -- a page comes to a frame
  pub unmovable_come : (unmovable : Bool) (frame : ℕ) → page < frame_count v → frame < frame_count v → set.contains v.unmovable page ≡ false → set.contains w.unmovable page ≡ unmovable → map.get w.placement page ≡ Some (At frame) → UnmovableFit (recounted false unmovable counts (frame / 512)) w
  unmovable_come unmovable frame numbered within was is at =
      counted false unmovable (frame / 512) numbered (omega (arith, within)) (λ block. never v was false (frame / 512) block) (test_of w unmovable frame is at) (λ e. (frame, at))

  -- a page goes from its frame
  pub unmovable_gone : (unmovable : Bool) (frame : ℕ) → page < frame_count v → frame < frame_count v → set.contains v.unmovable page ≡ unmovable → map.get v.placement page ≡ Some (At frame) → set.contains w.unmovable page ≡ false → UnmovableFit (recounted unmovable false counts (frame / 512)) w
  unmovable_gone unmovable frame numbered within was at is =
      counted unmovable false (frame / 512) numbered (omega (arith, within)) (test_of v unmovable frame was at) (λ block. never w is false (frame / 512) block) (λ e. absurd (both_ways (set.contains w.unmovable page) is e))

-- what is read off the counts
module _ (v : ZoneState) (counts : List ℕ) (fit : UnmovableFit counts v) where
  pub unmovable_read : (block : ℕ) → block < v.blocks → slice_index counts block ≡ count_below (is_unmovable_in v block) (frame_count v)
  unmovable_read block low = get_or_from_slice_get counts block _ 0 (fit.each block low)

  pub unmovable_few : (block : ℕ) → block < v.blocks → v.blocks ≤ 32768 → slice_index counts block ≤ 16777216
  unmovable_few block low few = omega (arith, unmovable_read block low, count_most (is_unmovable_in v block) (frame_count v), few)

  pub unmovable_some : (page frame : ℕ) → page < frame_count v → frame < frame_count v → map.get v.placement page ≡ Some (At frame) → set.contains v.unmovable page ≡ true → 0 < slice_index counts (frame / 512)
  unmovable_some page frame numbered within at is =
      let here : is_unmovable_in v (frame / 512) page ≡ true = (λ i. is i && is_in_block (at i) (frame / 512)) ∙ eq-eqb (frame / 512) (frame / 512) refl in
      omega (arith, unmovable_read (frame / 512) (omega (arith, within)), count_some (is_unmovable_in v (frame / 512)) (frame_count v) page numbered here)

  -- a page that is moving isn't unmovable
  pub moving_movable : (page serial source target : ℕ) → map.get v.placement page ≡ Some (Moving serial source target) → set.contains v.unmovable page ≡ false
  moving_movable page serial source target at = elim (cases_Bool (set.contains v.unmovable page)) [
    | inl is ↦ (let found = fit.rest page is in let bad : Some (At found.0) ≡ Some (Moving serial source target) = sym found.1 ∙ at in cc)
    | inr isnt ↦ isnt
  ]

-- a page that may be taken from its frame isn't unmovable
pub movable_only : (v : ZoneState) (page : ℕ) → can_move v page ≡ true → set.contains v.unmovable page ≡ false
movable_only v page can = not-true _ (and_parts _ _ can).1
