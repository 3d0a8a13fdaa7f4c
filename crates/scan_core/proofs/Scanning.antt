-- What the scanners pass over in the sets of frames that they look for.
use Rattle.std.proofs.Common.{◌≡◌, ℕ, ◌+◌, ◌*◌, ◌/◌, ◌<◌, ◌≤◌, Bool, true, false, not, List, inl, inr, sym, ap, ◌∙◌, arith}
use Rattle.std.specs.Prelude.{nat_le, ◌&&◌}
use Rattle.std.proofs.Math.Bool.{and-false}
use Rattle.std.proofs.lemmas.Bool.{le-leb, lt-leb}
use Rattle.std.proofs.lemmas.Bool.Decides.{leb_tells}
use Rattle.frame_core.specs.Below.{highest, lowest}
use Rattle.frame_core.proofs.Bounds.{highest_is, highest_none}
use Rattle.frame_core.proofs.Searches.{lowest_is, lowest_none}
use Rattle.number_set.specs.Finds.{IsFrom, IsPrevious, NoneBelow, NoneFrom}
use Rattle.std.specs.Prelude.{Some, None}
use Rattle.scan_core.specs.Frames.{true_at}
use Rattle.scan_core.specs.Pairs.{is_marked}
use Rattle.scan_core.proofs.Found.{skipped_and}

-- a frame that isn't a member is no stop, and neither is one in a marked pageblock
no_member : (a m x : Bool) → x ≡ false → (a && (not m && x)) ≡ false
no_member a m x e = ap (λ b. a && (not m && b)) e ∙ ap (λ b. a && b) (and-false (not m)) ∙ and-false a

no_unmarked : (a m x : Bool) → m ≡ true → (a && (not m && x)) ≡ false
no_unmarked a m x e = ap (λ b. a && (not b && x)) e ∙ and-false a

-- a search from a frame on and below an end
module _ (p : ℕ → Bool) (from end : ℕ) where
  pub movable_met : end ≤ from → lowest (λ k. nat_le from k && p k) end ≡ None
  movable_met met = lowest_none _ end (λ k h. ap (λ b. b && p k) (lt-leb from k (omega (arith, h, met))))

  pub movable_none : NoneFrom p from → lowest (λ k. nat_le from k && p k) end ≡ None
  movable_none none = lowest_none _ end (λ k h. elim (leb_tells from k) [
    | inl past ↦ skipped_and (nat_le from k) (p k) (none k past.1)
    | inr under ↦ ap (λ b. b && p k) (lt-leb from k under.1)
  ])

  module _ (frame : ℕ) (found : IsFrom p from frame) where
    none_before : (k : ℕ) → k < frame → (nat_le from k && p k) ≡ false
    none_before k h = elim (leb_tells from k) [
      | inl past ↦ skipped_and (nat_le from k) (p k) (found.between k past.1 h)
      | inr under ↦ ap (λ b. b && p k) (lt-leb from k under.1)
    ]

    pub movable_past : end ≤ frame → lowest (λ k. nat_le from k && p k) end ≡ None
    movable_past past = lowest_none _ end (λ k h. none_before k (omega (arith, h, past)))

    pub movable_here : frame < end → lowest (λ k. nat_le from k && p k) end ≡ Some frame
    movable_here high = lowest_is _ end frame high (λ i. le-leb from frame found.least i && found.passes i) none_before

module _ (marked : List Bool) (p : ℕ → Bool) where
  same_mark : (frame k : ℕ) → frame / 512 ≡ k / 512 → is_marked marked frame ≡ true → is_marked marked k ≡ true
  same_mark frame k same is = ap (true_at marked) (sym same) ∙ is

  -- the migrate scanner, which stopped nowhere below a frame
  module _ (from end next : ℕ) (before : (k : ℕ) → k < next → (nat_le from k && (not (is_marked marked k) && p k)) ≡ false) where
    pub source_none : NoneFrom p next → lowest (λ k. nat_le from k && (not (is_marked marked k) && p k)) end ≡ None
    source_none none = lowest_none _ end (λ k h. elim (leb_tells next k) [
      | inl past ↦ no_member (nat_le from k) (is_marked marked k) (p k) (none k past.1)
      | inr under ↦ before k under.1
    ])

    module _ (frame : ℕ) (found : IsFrom p next frame) where
      passed : (k : ℕ) → k < frame → (nat_le from k && (not (is_marked marked k) && p k)) ≡ false
      passed k h = elim (leb_tells next k) [
        | inl past ↦ no_member (nat_le from k) (is_marked marked k) (p k) (found.between k past.1 h)
        | inr under ↦ before k under.1
      ]

      pub source_past : end ≤ frame → lowest (λ k. nat_le from k && (not (is_marked marked k) && p k)) end ≡ None
      source_past past = lowest_none _ end (λ k h. passed k (omega (arith, h, past)))

      pub source_here : frame < end → from ≤ next → is_marked marked frame ≡ false → lowest (λ k. nat_le from k && (not (is_marked marked k) && p k)) end ≡ Some frame
      source_here high low unmarked = lowest_is _ end frame high (λ i. le-leb from frame (omega (arith, low, found.least)) i && (not (unmarked i) && found.passes i)) passed

      pub source_marked : is_marked marked frame ≡ true → (k : ℕ) → k < (frame / 512 + 1) * 512 → (nat_le from k && (not (is_marked marked k) && p k)) ≡ false
      source_marked is k h = elim (leb_tells frame k) [
        | inl past ↦ no_unmarked (nat_le from k) (is_marked marked k) (p k) (same_mark frame k (omega (arith, past.1, h)) is)
        | inr under ↦ passed k under.1
      ]

  -- the free scanner, which stopped nowhere from a frame on
  module _ (low end above : ℕ) (stops : (k : ℕ) → above ≤ k → k < end → (nat_le low k && (not (is_marked marked k) && p k)) ≡ false) where
    pub target_none : NoneBelow p above → highest (λ k. nat_le low k && (not (is_marked marked k) && p k)) end ≡ None
    target_none none = highest_none _ end (λ k h. elim (leb_tells above k) [
      | inl past ↦ stops k past.1 h
      | inr under ↦ no_member (nat_le low k) (is_marked marked k) (p k) (none k under.1)
    ])

    pub target_met : above ≤ low → highest (λ k. nat_le low k && (not (is_marked marked k) && p k)) end ≡ None
    target_met met = highest_none _ end (λ k h. elim (leb_tells above k) [
      | inl past ↦ stops k past.1 h
      | inr under ↦ ap (λ b. b && (not (is_marked marked k) && p k)) (lt-leb low k (omega (arith, under.1, met)))
    ])

    module _ (frame : ℕ) (found : IsPrevious p above frame) where
      passed_down : (k : ℕ) → frame < k → k < end → (nat_le low k && (not (is_marked marked k) && p k)) ≡ false
      passed_down k over h = elim (leb_tells above k) [
        | inl past ↦ stops k past.1 h
        | inr under ↦ no_member (nat_le low k) (is_marked marked k) (p k) (found.between k over under.1)
      ]

      pub target_past : frame < low → highest (λ k. nat_le low k && (not (is_marked marked k) && p k)) end ≡ None
      target_past past = highest_none _ end (λ k h. elim (leb_tells low k) [
        | inl from ↦ passed_down k (omega (arith, from.1, past)) h
        | inr under ↦ ap (λ b. b && (not (is_marked marked k) && p k)) (lt-leb low k under.1)
      ])

      pub target_here : low ≤ frame → above ≤ end → is_marked marked frame ≡ false → highest (λ k. nat_le low k && (not (is_marked marked k) && p k)) end ≡ Some frame
      target_here from most unmarked = highest_is _ end frame (omega (arith, found.below, most)) (λ i. le-leb low frame from i && (not (unmarked i) && found.passes i)) passed_down

      pub target_marked : is_marked marked frame ≡ true → (k : ℕ) → frame / 512 * 512 ≤ k → k < end → (nat_le low k && (not (is_marked marked k) && p k)) ≡ false
      target_marked is k from h = elim (leb_tells k frame) [
        | inl under ↦ no_unmarked (nat_le low k) (is_marked marked k) (p k) (same_mark frame k (omega (arith, under.1, from)) is)
        | inr over ↦ passed_down k over.1 h
      ]
