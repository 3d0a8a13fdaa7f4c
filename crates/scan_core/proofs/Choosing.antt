-- Which frame the searches by pageblocks find.
use Rattle.std.proofs.Common.{◌≡◌, ℕ, ◌*◌, ◌/◌, ◌<◌, ◌≤◌, Bool, true, false, not, List, length, inl, inr, refl, sym, ap, ◌∙◌, slice_index, eq-eqb, le-ltb, ltb-true, lt-ltb, arith}
use Rattle.std.proofs.lemmas.Bool.{and_from, both_ways, eqb-true, false_from_ne_true}
use Rattle.std.specs.Prelude.{Option, Some, None, MatchOption, nat_eq, nat_lt, ◌&&◌}
use Rattle.std.specs.FinSet as set
use Rattle.std.specs.Option.{option_or}
use Rattle.std.proofs.Math.Bool.{and-false}
use Rattle.std.proofs.lemmas.Bool.Decides.{leb_tells, nat_tests}
use Rattle.frame_core.specs.Below.{lowest}
use Rattle.frame_core.specs.Order.{is_aligned}
use Rattle.frame_core.proofs.Searches.{count_from_most, lowest_before, lowest_is, lowest_none, lowest_some, no_lowest, none_some, some_at}
use Rattle.number_set.specs.Finds.{IsFirst, IsFrom, NoneAtAll, NoneFrom}
use Rattle.scan_core.specs.Apart.{frame_with_unmovable, frame_without_unmovable, has_unmovable, is_begun, is_emptiest, lowest_where}
use Rattle.scan_core.specs.BlockGroups.{IsGrouped, takes_another, takes_unmovable}
use Rattle.scan_core.specs.FrameCounts.{IsFullest, count_in_block}
use Rattle.scan_core.specs.FrameSet.{Counts, all_of_block, is_run_of}
use Rattle.scan_core.specs.NumberSet.{all_from}
use Rattle.scan_core.specs.declared.block_groups.BlockGroups.{BlockGroups}
use Rattle.scan_core.proofs.FrameSets.{all_pass, below_bound, some_from}
use Rattle.scan_core.proofs.Masking.{clash}
use Rattle.scan_core.proofs.RunCounts.{counted, counted_some}
use Rattle.scan_core.proofs.Spanning.{both, is_in_run}

-- what the two tests of a pageblock's numbers say
unmovable_there : (unmovable free : ℕ) → takes_unmovable unmovable free ≡ true → (nat_lt 0 unmovable ≡ true) × (0 < free)
unmovable_there unmovable free e = let parts = both (nat_lt 0 unmovable) (nat_lt 0 free) e in (parts.0, ltb-true 0 free parts.1)

no_unmovable : (unmovable free : ℕ) → takes_unmovable unmovable free ≡ false → 0 < free → nat_lt 0 unmovable ≡ false
no_unmovable unmovable free e some = grind (arith, nat_tests, e, some)

another_there : (unmovable free : ℕ) → takes_another unmovable free ≡ true → ((not (nat_eq free 512) && not (nat_lt 0 unmovable)) ≡ true) × (0 < free)
another_there unmovable free e =
    let parts = both (nat_eq unmovable 0) (nat_lt 0 free && nat_lt free 512) e in
    (grind (arith, nat_tests, e), ltb-true 0 free (both (nat_lt 0 free) (nat_lt free 512) parts.1).0)

no_another : (unmovable free : ℕ) → free ≤ 512 → takes_another unmovable free ≡ false → 0 < free → (not (nat_eq free 512) && not (nat_lt 0 unmovable)) ≡ false
no_another unmovable free most e some = grind (arith, nat_tests, most, e, some)

-- the lowest whole pageblock begins with the lowest frame of whole pageblocks
module _ (p : ℕ → Bool) (frames : ℕ) where
  run_whole : (first : ℕ) → is_run_of p 9 first ≡ true → (p first && all_of_block p (first / 512)) ≡ true
  run_whole first run =
      let parts = both (is_aligned 9 first) (all_from p first 512) run in
      let at : first ≡ 512 * (first / 512) = omega (arith, eqb-true (first / 512 * 512) first parts.0) in
      and_from (p first) (all_of_block p (first / 512)) (all_pass p first 512 parts.1 first (is_in_run first 512 first (omega arith) (omega arith))) (sym (ap (λ k. all_from p k 512) at) ∙ parts.1)

  pub run_passes : (first : ℕ) → lowest (is_run_of p 9) frames ≡ Some first → p first ≡ true
  run_passes first e = (both (p first) (all_of_block p (first / 512)) (run_whole first (lowest_some (is_run_of p 9) frames first e).1)).0

  whole_run : (frame : ℕ) → (p frame && all_of_block p (frame / 512)) ≡ true → is_run_of p 9 (512 * (frame / 512)) ≡ true
  whole_run frame whole =
      and_from (is_aligned 9 (512 * (frame / 512))) (all_from p (512 * (frame / 512)) 512) (eq-eqb (512 * (frame / 512) / 512 * 512) (512 * (frame / 512)) (omega arith))
      (both (p frame) (all_of_block p (frame / 512)) whole).1

  pub lowest_of_whole : (run : Option ℕ) → lowest (is_run_of p 9) frames ≡ run → run ≡ lowest_where p (all_of_block p) frames
  lowest_of_whole None e =
      sym (lowest_none (λ frame. p frame && all_of_block p (frame / 512)) frames (λ frame h. false_from_ne_true _ (λ whole.
      both_ways _ (no_lowest (is_run_of p 9) frames (512 * (frame / 512)) e (omega (arith, h))) (whole_run frame whole))))
  lowest_of_whole (Some first) e =
      let found = lowest_some (is_run_of p 9) frames first e in
      sym (lowest_is (λ frame. p frame && all_of_block p (frame / 512)) frames first found.0 (run_whole first found.1) (λ frame h. false_from_ne_true _ (λ whole.
      both_ways _ (lowest_before (is_run_of p 9) frames first (512 * (frame / 512)) e (omega (arith, h))) (whole_run frame whole))))

module _ (p : ℕ → Bool) (count : ℕ) (counts : List ℕ) (right : Counts count counts p) where
  -- a frame that passes is counted
  block_of : (frame : ℕ) → p frame ≡ true → frame / 512 < length counts
  block_of frame passes = omega (arith, below_bound p count counts right frame passes)

  some_of : (frame : ℕ) → p frame ≡ true → 0 < slice_index counts (frame / 512)
  some_of frame passes = counted_some counts p frame right.each (block_of frame passes) passes

  no_where : (passes : ℕ → Bool) → ((block : ℕ) → block < length counts → 0 < slice_index counts block → passes block ≡ false) → lowest_where p passes (512 * length counts) ≡ None
  no_where passes fails = lowest_none (λ frame. p frame && passes (frame / 512)) (512 * length counts) (λ frame h. by frame (p frame) refl) where
    by : (frame : ℕ) (b : Bool) → p frame ≡ b → (p frame && passes (frame / 512)) ≡ false
    by frame false e = ap (λ b. b && passes (frame / 512)) e
    by frame true e = ap (λ b. p frame && b) (fails (frame / 512) (block_of frame e) (some_of frame e)) ∙ and-false (p frame)

  -- the first frame from a pageblock on is the lowest of those that pass, where no pageblock before it has a frame and passes
  module _ (passes : ℕ → Bool) (block : ℕ) (low : block < length counts) (here : passes block ≡ true) (before : (k : ℕ) → k < block → 0 < slice_index counts k → passes k ≡ false) where
    fails_before : (frame : ℕ) → frame < 512 * block → (p frame && passes (frame / 512)) ≡ false
    fails_before frame under = by (p frame) refl where
      by : (b : Bool) → p frame ≡ b → (p frame && passes (frame / 512)) ≡ false
      by false e = ap (λ b. b && passes (frame / 512)) e
      by true e = ap (λ b. p frame && b) (before (frame / 512) (omega (arith, under)) (some_of frame e)) ∙ and-false (p frame)

    fails_until : (end frame : ℕ) → ((k : ℕ) → 512 * block ≤ k → k < end → p k ≡ false) → frame < end → (p frame && passes (frame / 512)) ≡ false
    fails_until end frame none under = elim (leb_tells (512 * block) frame) [
      | inl from ↦ ap (λ b. b && passes (frame / 512)) (none frame from.1 under)
      | inr below ↦ fails_before frame below.1
    ]

    first_here : (frame : ℕ) → IsFrom p (512 * block) frame → 0 < slice_index counts block → frame / 512 ≡ block
    first_here frame from some =
        let one = some_from p (512 * block) 512 (omega (arith, some, counted counts p block right.each low)) in
        elim (leb_tells frame one.0) [
          | inl up ↦ omega (arith, up.1, one.1, one.2, from.least)
          | inr past ↦ absurd (clash (p one.0) one.3 (from.between one.0 one.1 past.1))
        ]

    pub found_from : (o : Option ℕ) → MatchOption o (NoneFrom p (512 * block)) (IsFrom p (512 * block)) → ((frame : ℕ) → p frame ≡ true → 0 < slice_index counts block) → o ≡ lowest_where p passes (512 * length counts)
    found_from None none some = sym (lowest_none (λ frame. p frame && passes (frame / 512)) (512 * length counts) (λ frame h. fails_until (512 * length counts) frame (λ k from under. none k from) h))
    found_from (Some frame) from some =
        let at = first_here frame from (some frame from.passes) in
        sym (lowest_is (λ k. p k && passes (k / 512)) (512 * length counts) frame (below_bound p count counts right frame from.passes) (λ i. from.passes i && (ap passes at ∙ here) i)
        (λ k under. fails_until frame k from.between under))

    -- where the pageblock has a frame, one is found
    pub found_first : (o r : Option ℕ) → MatchOption o (NoneFrom p (512 * block)) (IsFrom p (512 * block)) → 0 < slice_index counts block → o ≡ option_or (lowest_where p passes (512 * length counts)) r
    found_first None r none some =
        let one = some_from p (512 * block) 512 (omega (arith, some, counted counts p block right.each low)) in
        absurd (clash (p one.0) one.3 (none one.0 one.1))
    found_first (Some frame) r from some = ap (λ o. option_or o r) (found_from (Some frame) from (λ k passes. some))

  module _ (groups : BlockGroups) (grouped : IsGrouped groups counts) where
    abbrev unmovable : ℕ → ℕ
    unmovable = slice_index groups.unmovable.items

    few : (block : ℕ) → block < length counts → slice_index counts block ≤ 512
    few block low = omega (arith, counted counts p block right.each low, count_from_most p (512 * block) 512)

    pub with_unmovable_first : (block : ℕ) (o : Option ℕ) → block < length counts → IsFirst (set.contains groups.with_unmovable.members) block → MatchOption o (NoneFrom p (512 * block)) (IsFrom p (512 * block)) → o ≡ frame_with_unmovable p groups.unmovable.items (512 * length counts)
    with_unmovable_first block o low first from =
        let there = unmovable_there (unmovable block) (slice_index counts block) (sym (grouped.with_unmovable block) ∙ first.passes) in
        found_first (has_unmovable groups.unmovable.items) block low there.0 (λ k under some. no_unmovable (unmovable k) (slice_index counts k) (sym (grouped.with_unmovable k) ∙ first.before k under) some)
        o _ from there.1

    pub with_unmovable_none : (block : ℕ) (o : Option ℕ) → NoneAtAll (set.contains groups.with_unmovable.members) → IsFullest counts (length counts) block → MatchOption o (NoneFrom p (512 * block)) (IsFrom p (512 * block)) → o ≡ frame_with_unmovable p groups.unmovable.items (512 * length counts)
    with_unmovable_none block o none fullest from =
        let blocks : length counts ≡ 512 * length counts / 512 = omega arith in
        let is = λ (k : ℕ) (h : k < length counts). counted counts p k right.each h in
        let low = fullest.within in
        let here : is_emptiest p (length counts) block ≡ true = ap not (none_some (λ other. nat_lt (count_in_block p block) (count_in_block p other)) (length counts)
        (λ other h. le-ltb (count_in_block p block) (count_in_block p other) (omega (arith, is block low, is other h, fullest.most other h)))) in
        let before = λ (k : ℕ) (under : k < block) (some : 0 < slice_index counts k). ap not (some_at (λ other. nat_lt (count_in_block p k) (count_in_block p other)) (length counts) block low
        (lt-ltb (count_in_block p k) (count_in_block p block) (omega (arith, is block low, is k (omega (arith, under, low)), fullest.lowest k under)))) in
        found_from (is_emptiest p (length counts)) block low here before o from (λ frame passes. omega (arith, some_of frame passes, fullest.most (frame / 512) (block_of frame passes)))
        ∙ ap (λ n. lowest_where p (is_emptiest p n) (512 * length counts)) blocks
        ∙ sym (ap (λ found. option_or found (lowest_where p (is_emptiest p (512 * length counts / 512)) (512 * length counts))) gone)
      where
        gone : lowest_where p (has_unmovable groups.unmovable.items) (512 * length counts) ≡ None
        gone = no_where (has_unmovable groups.unmovable.items) (λ k h some. no_unmovable (unmovable k) (slice_index counts k) (sym (grouped.with_unmovable k) ∙ none k) some)

    another_gone : (k : ℕ) → k < length counts → 0 < slice_index counts k → set.contains groups.without_unmovable.members k ≡ false → is_begun p groups.unmovable.items k ≡ false
    another_gone k h some none =
        ap (λ n. not (nat_eq n 512) && not (nat_lt 0 (unmovable k))) (sym (counted counts p k right.each h))
        ∙ no_another (unmovable k) (slice_index counts k) (few k h) (sym (grouped.without_unmovable k) ∙ none) some

    pub without_unmovable_first : (block : ℕ) (o : Option ℕ) → block < length counts → IsFirst (set.contains groups.without_unmovable.members) block → MatchOption o (NoneFrom p (512 * block)) (IsFrom p (512 * block)) → o ≡ frame_without_unmovable p groups.unmovable.items (512 * length counts)
    without_unmovable_first block o low first from =
        let there = another_there (unmovable block) (slice_index counts block) (sym (grouped.without_unmovable block) ∙ first.passes) in
        found_first (is_begun p groups.unmovable.items) block low
        (ap (λ n. not (nat_eq n 512) && not (nat_lt 0 (unmovable block))) (sym (counted counts p block right.each low)) ∙ there.0)
        (λ k under some. another_gone k (omega (arith, under, low)) some (first.before k under))
        o _ from there.1

    pub without_unmovable_none : NoneAtAll (set.contains groups.without_unmovable.members) → (run : Option ℕ) → lowest (is_run_of p 9) (512 * length counts) ≡ run
        → option_or run (lowest p (512 * length counts)) ≡ frame_without_unmovable p groups.unmovable.items (512 * length counts)
    without_unmovable_none none run e =
        ap (λ found. option_or found (lowest p (512 * length counts))) (lowest_of_whole p (512 * length counts) run e)
        ∙ sym (ap (λ found. option_or found (option_or (lowest_where p (all_of_block p) (512 * length counts)) (lowest p (512 * length counts)))) gone)
      where
        gone : lowest_where p (is_begun p groups.unmovable.items) (512 * length counts) ≡ None
        gone = no_where (is_begun p groups.unmovable.items) (λ k h some. another_gone k h some (none k))
