-- A walk over the runs of a zone finds the open one that is next in rank.
use Rattle.std.proofs.Common.{◌≡◌, ◌≢◌, ℕ, zero, suc, ◌+◌, ◌*◌, ◌/◌, ◌^◌, ◌<◌, ◌≤◌, Bool, true, false, not, ◌&&◌, ◌||◌, List, [], ◌∷◌, length, inl, inr, refl, sym, ap, subst, ◌∙◌, arith}
use Rattle.std.specs.Prelude.{Option, Some, None, is_some, if◌then◌else◌, IfSome, nat_eq, nat_le, nat_lt, slice_index, slice_set}
use Rattle.std.proofs.lemmas.Bool.{and_from, both_ways, cases_Bool, eq-eqb, eqb-true, false_from_ne_true, le-leb, leb-true, lt-ltb, ltb-true}
use Rattle.std.proofs.lemmas.Bool.Decides.{eqb_tells, leb_tells}
use Rattle.frame_core.proofs.Searches.{count_from_most, count_most}
use Rattle.frame_core.specs.Below.{count_below}
use Rattle.std.proofs.lemmas.List.{get_or-set_other, get_or-set_same}
use Rattle.std.proofs.lemmas.Nat.{pow_pos}
use Rattle.frame_core.specs.Order.{is_aligned}
use Rattle.state_core.specs.declared.error.ZoneError.TheVariants.{Range, NoBlock}
use Rattle.state_core.specs.HandingOut.{has_block}
use Rattle.state_core.proofs.Runs.{quotient}
use Rattle.state_core.specs.ZoneState.{ZoneState, frame_count, is_free, is_used}
use Rattle.fewest_core.specs.Claims.{claim_refusal}
use Rattle.fewest_core.specs.FewestMoves.{cost, costs, is_open, least, run_count}
use Rattle.fewest_core.specs.Reservation.{goes_before, rank, ArePicked}
use Rattle.fewest_core.proofs.Costs.{costs_counted}
use Rattle.fewest_core.proofs.Ranks.{after_is, all_picked, before_trans, cheaper_first, least_more, lower_first, no_dearer, next_rank as first_has_rank, not_after, not_itself, of_rank, picks, picks_parts, rank_within}
use Rattle.scan_core.specs.FreeRuns.{free_in_run, IsLowestWith, IsNextWith}
use Rattle.zone_tables.proofs.OpenRuns.{open_occupied, run_fits}
use Rattle.zone_core.specs.declared.bare.reserving.OpenRun.{OpenRun}
use Rattle.zone_core.specs.Reserving.{is_after, is_before, is_level, least_free, next_rank, IsOpenRun}

module _ (z : ZoneState) (size : ℕ) where
  abbrev pub opened : ℕ → Bool
  opened = is_open z size

  abbrev pub before : ℕ → ℕ → Bool
  before = goes_before (cost z size)

  higher_later : (a b : ℕ) → cost z size a ≤ cost z size b → a < b → before b a ≡ false
  higher_later a b dear high = false_from_ne_true _ (λ e. both_ways _ (not_itself (cost z size) b) (before_trans (cost z size) b a b e (elim (leb_tells (cost z size b) (cost z size a)) [
    | inl level ↦ lower_first (cost z size) a b (omega (arith, dear, level.1)) high
    | inr cheaper ↦ cheaper_first (cost z size) a b cheaper.1
  ])))

  -- by the pages of two open runs, as by their costs
  before_same : (a b : OpenRun) → IsOpenRun z size a → IsOpenRun z size b → is_before a b ≡ before a.number b.number
  before_same a b p q = λ i. nat_lt (p.pages i) (q.pages i) || (nat_eq (p.pages i) (q.pages i) && nat_lt a.number b.number)

  -- whether a run goes after the last one
  abbrev pub after : Option OpenRun → ℕ → Bool
  after None k = true
  after (Some last) k = before last.number k

  pub after_same : (r : OpenRun) (last : Option OpenRun) → IfSome last (IsOpenRun z size) → IsOpenRun z size r → is_after r last ≡ after last r.number
  after_same r None ok is = refl
  after_same r (Some last) ok is = before_same last r ok is

  -- of the first k runs, this is the first open one after the last
  pub record IsBest (last : Option OpenRun) (k : ℕ) (r : OpenRun) : Type 0 where
    pub run : IsOpenRun z size r
    pub below : r.number < k
    pub later : after last r.number ≡ true
    pub first : (j : ℕ) → j < k → opened j ≡ true → after last j ≡ true → before j r.number ≡ false

  -- what the walk has found among the first k runs
  abbrev pub IsNext : Option OpenRun → ℕ → Option OpenRun → Type 0
  IsNext last k None = (j : ℕ) → j < k → opened j ≡ true → after last j ≡ false
  IsNext last k (Some r) = IsBest last k r

  pub found_fits : (last next : Option OpenRun) (k : ℕ) → IsNext last k next → IfSome next (λ r. r.pages ≤ size)
  found_fits last None k is = tt
  found_fits last (Some r) k is = omega (arith, is.run.pages, count_from_most (is_used z) (size * r.number) size)

  pub walk_begins : (last : Option OpenRun) → IsNext last 0 None
  walk_begins last j h = absurd (omega (arith, h))

  -- an open run doesn't change what was found: it isn't after the last, or doesn't go before what was found
  abbrev pub Misses : Option OpenRun → Option OpenRun → ℕ → Type 0
  Misses last None k = after last k ≡ false
  Misses last (Some r) k = after last k ≡ true → before k r.number ≡ false

  pub walk_passes : (last next : Option OpenRun) (from to : ℕ) → IsNext last from next → from ≤ to → ((k : ℕ) → from ≤ k → k < to → opened k ≡ true → Misses last next k) → IsNext last to next
  walk_passes last None from to is on misses = λ j h o. elim (leb_tells from j) [
    | inl passed ↦ misses j passed.1 h o
    | inr before ↦ is j before.1 o
  ]
  walk_passes last (Some r) from to is on misses = record {
    run = is.run;
    below = omega (arith, is.below, on);
    later = is.later;
    first = λ j h o a. elim (leb_tells from j) [
      | inl passed ↦ misses j passed.1 h o a
      | inr before ↦ is.first j before.1 o a
    ];
  }

  pub walk_on : (last next : Option OpenRun) (k : ℕ) → IsNext last k next → (opened k ≡ true → Misses last next k) → IsNext last (k + 1) next
  walk_on last next k is misses =
      walk_passes last next k (k + 1) is (omega arith) (λ j low high. let at : k ≡ j = omega (arith, low, high) in subst (λ (m : ℕ). opened m ≡ true → Misses last next m) at misses)

  -- one that isn't after the last doesn't
  pub misses_early : (last next : Option OpenRun) (r : OpenRun) → IfSome last (IsOpenRun z size) → IsOpenRun z size r → is_after r last ≡ false → Misses last next r.number
  misses_early last None r ok run early = sym (after_same r last ok run) ∙ early
  misses_early last (Some n) r ok run early = λ a. absurd (both_ways _ (sym (after_same r last ok run) ∙ early) a)

  -- nor does a higher one that has as many pages as what was found
  pub misses_dear : (last : Option OpenRun) (n : OpenRun) (k : ℕ) → IsOpenRun z size n → n.number < k → n.pages ≤ cost z size k → Misses last (Some n) k
  misses_dear last n k run low dear = λ a. higher_later n.number k (omega (arith, run.pages, dear)) low

  -- the run at hand is after the last and has fewer pages than what was found
  pub walk_takes : (last next : Option OpenRun) (k : ℕ) (r : OpenRun) → IfSome last (IsOpenRun z size) → IsNext last k next → IsOpenRun z size r → r.number ≡ k → is_after r last ≡ true → IfSome next (λ n. r.pages < n.pages) → IsNext last (k + 1) (Some r)
  walk_takes last next k r ok is run at later fewer = record {
    run = run;
    below = omega (arith, at);
    later = sym (after_same r last ok run) ∙ later;
    first = λ j h o a. elim (eqb_tells j k) [
      | inl here ↦ ap (λ (m : ℕ). before m r.number) (here.1 ∙ sym at) ∙ not_itself (cost z size) r.number
      | inr other ↦ by_next next is fewer j (omega (arith, h, other.1)) o a
    ];
  } where
    by_next : (next : Option OpenRun) → IsNext last k next → IfSome next (λ n. r.pages < n.pages) → (j : ℕ) → j < k → opened j ≡ true → after last j ≡ true → before j r.number ≡ false
    by_next None is fewer j h o a = absurd (both_ways _ (is j h o) a)
    by_next (Some n) is fewer j h o a = false_from_ne_true _ (λ e. both_ways _ (is.first j h o a) (before_trans (cost z size) j r.number n.number e (cheaper_first (cost z size) r.number n.number (omega (arith, fewer, run.pages, is.run.pages)))))

  no_cheaper : (last : Option OpenRun) (r : OpenRun) → IfSome last (IsOpenRun z size) → IsOpenRun z size r → is_level r last ≡ true → (j : ℕ) → after last j ≡ true → cost z size r.number ≤ cost z size j
  no_cheaper None r ok run level j later = omega (arith, run.pages, eqb-true r.pages 0 level)
  no_cheaper (Some l) r ok run level j later = omega (arith, run.pages, ok.pages, eqb-true r.pages l.pages level, no_dearer (cost z size) l.number j later)

  -- a run that was taken and is as cheap as the last goes before each higher one that is after the last
  pub walk_ends : (last : Option OpenRun) (k n : ℕ) (r : OpenRun) → IfSome last (IsOpenRun z size) → IsNext last (k + 1) (Some r) → is_level r last ≡ true → k < n → IsNext last n (Some r)
  walk_ends last k n r ok is level within = record {
    run = is.run;
    below = omega (arith, is.below, within);
    later = is.later;
    first = λ j h o later. elim (leb_tells j k) [
      | inl low ↦ is.first j (omega (arith, low.1)) o later
      | inr high ↦ higher_later r.number j (no_cheaper last r ok is.run level j later) (omega (arith, is.below, high.1))
    ];
  }

  -- among all runs, what is found is next in rank
  abbrev pub runs : ℕ
  runs = run_count z size

  counted : length (costs z size) ≡ count_below opened runs
  counted = costs_counted opened (cost z size) runs

  pub rank_fits : (last : Option OpenRun) → IfSome last (IsOpenRun z size) → next_rank z size last ≤ length (costs z size)
  rank_fits None ok = omega arith
  rank_fits (Some l) ok = omega (arith, counted, rank_within opened (cost z size) runs l.number ok.within ok.opened)

  left_after : (last : Option OpenRun) → IfSome last (IsOpenRun z size) → (k : ℕ) → k < runs → opened k ≡ true → after last k ≡ true → picks opened (cost z size) runs (next_rank z size last) k ≡ false
  left_after None ok k h o a = false_from_ne_true _ (λ e. absurd (omega (arith, (picks_parts opened (cost z size) runs 0 k e).1)))
  left_after (Some l) ok k h o a = after_is opened (cost z size) runs (rank z size l.number) l.number k ok.within ok.opened refl o a

  after_left : (last : Option OpenRun) → IfSome last (IsOpenRun z size) → (k : ℕ) → k < runs → opened k ≡ true → picks opened (cost z size) runs (next_rank z size last) k ≡ false → after last k ≡ true
  after_left None ok k h o out = refl
  after_left (Some l) ok k h o out = elim (cases_Bool (before l.number k)) [
    | inl is ↦ is
    | inr none ↦ absurd (both_ways _ out (not_after opened (cost z size) runs (rank z size l.number) l.number k ok.within h ok.opened refl o none))
  ]

  module _ (last : Option OpenRun) (ok : IfSome last (IsOpenRun z size)) where
    abbrev n : ℕ
    n = next_rank z size last

    picked_all : count_below (picks opened (cost z size) runs n) runs ≡ n
    picked_all = all_picked opened (cost z size) runs n (omega (arith, rank_fits last ok, counted))

    pub found_ranked : (r : OpenRun) → IsNext last runs (Some r) → rank z size r.number ≡ n
    found_ranked r is = first_has_rank opened (cost z size) runs n r.number picked_all is.run.within is.run.opened (left_after last ok r.number is.run.within is.run.opened is.later)
        (λ k h o out. is.first k h o (after_left last ok k h o out))

    pub found_open : (r : OpenRun) → IsNext last runs (Some r) → IsOpenRun z size r
    found_open r is = is.run

    pub found_there : (next : Option OpenRun) → IsNext last runs next → is_some next ≡ nat_lt n (length (costs z size))
    found_there (Some r) is = sym (lt-ltb _ _ (omega (arith, counted, found_ranked r is, rank_within opened (cost z size) runs r.number is.run.within is.run.opened)))
    found_there None is = sym (false_from_ne_true _ (λ e.
        let more = of_rank opened (cost z size) runs n picked_all (omega (arith, counted, ltb-true _ _ e)) in
        let out = false_from_ne_true _ (λ p. absurd (omega (arith, more.3, (picks_parts opened (cost z size) runs n more.0 p).1))) in
        both_ways _ (is more.0 more.1 more.2) (after_left last ok more.0 more.1 more.2 out)))

  pub found_all : (last : Option OpenRun) → IfSome last (IsOpenRun z size) → (next : Option OpenRun) → IsNext last runs next → IfSome next (λ r. rank z size r.number ≡ next_rank z size last)
  found_all last ok None is = tt
  found_all last ok (Some r) is = found_ranked last ok r is

  -- where there is no last run, one before which no other goes is next
  pub start_there : (last : Option OpenRun) → is_some last ≡ false → (r : OpenRun) → IsOpenRun z size r → rank z size r.number ≡ 0 → true ≡ nat_lt (next_rank z size last) (length (costs z size))
  start_there None none r run first = sym (lt-ltb 0 _ (omega (arith, first, rank_fits (Some r) run)))
  start_there (Some l) none r run first = cc

  -- one run more costs what it has pages
  pub least_next : (r : OpenRun) (n : ℕ) → IsOpenRun z size r → rank z size r.number ≡ n → least (n + 1) z size ≡ least n z size + r.pages
  least_next r n is at = least_more opened (cost z size) runs n r.number is.within is.opened at ∙ ap (λ (k : ℕ). least n z size + k) (sym is.pages)

-- a run of a zone, by its first frame
module _ (z : ZoneState) (order number : ℕ) (within : number < run_count z (2 ^ order)) where
  pub start_within : 2 ^ order * number + 2 ^ order ≤ frame_count z
  start_within = run_fits (2 ^ order) (frame_count z) number within

  pub start_number : (2 ^ order * number) / 2 ^ order ≡ number
  start_number = quotient (2 ^ order * number) (2 ^ order) number (omega arith) (omega (arith, pow_pos order))

  pub start_block : has_block z order (2 ^ order * number) ≡ true
  start_block = and_from (is_aligned order (2 ^ order * number)) _
      (eq-eqb _ _ (ap (λ (k : ℕ). k * 2 ^ order) start_number ∙ swapped (2 ^ order) number)) (le-leb _ _ start_within) where
        swapped : (a b : ℕ) → b * a ≡ a * b
        swapped a b = omega arith

  -- what is told of a run by its first frame, of this zone as it stands elsewhere
  module _ (u : ZoneState) (here : u ≡ z) (first : ℕ) (start : first ≡ 2 ^ order * number) where
    at : first / 2 ^ order ≡ number
    at = ap (λ (k : ℕ). k / 2 ^ order) start ∙ start_number

    pub told_block : has_block u order first ≡ true
    told_block = (λ i. has_block (here i) order (start i)) ∙ start_block

    pub told_open : is_open u (2 ^ order) (first / 2 ^ order) ≡ is_open z (2 ^ order) number
    told_open = λ i. is_open (here i) (2 ^ order) (at i)

    pub told_cost : cost u (2 ^ order) (first / 2 ^ order) ≡ cost z (2 ^ order) number
    told_cost = λ i. cost (here i) (2 ^ order) (at i)

-- each frame of an open run is free or has a page
pub free_or_used : (z : ZoneState) (order k : ℕ) → k < run_count z (2 ^ order) → is_open z (2 ^ order) k ≡ true → free_in_run (is_free z) order k + cost z (2 ^ order) k ≡ 2 ^ order
free_or_used z order k within is =
    let at = start_number z order k within in
    omega (arith, open_occupied z (2 ^ order * k) order (start_block z order k within) (ap (is_open z (2 ^ order)) at ∙ is), ap (cost z (2 ^ order)) at)

-- the next run with so many free frames, told of this zone as it stands elsewhere
pub told_next : (z u : ZoneState) → u ≡ z → (order from least many : ℕ) → least ≡ many → (found : Option ℕ) → IsNextWith (free_in_run (is_free u) order) (run_count u (2 ^ order)) from least found → IsNextWith (free_in_run (is_free z) order) (run_count z (2 ^ order)) from many found
told_next z u here order from least many same found is =
    subst (λ (v : ZoneState). IsNextWith (free_in_run (is_free v) order) (run_count v (2 ^ order)) from many found) here
    (subst (λ (n : ℕ). IsNextWith (free_in_run (is_free u) order) (run_count u (2 ^ order)) from n found) same is)

-- the walk goes to the next run with so many free frames that it has fewer pages than what was found
module _ (z : ZoneState) (order from : ℕ) (last next : Option OpenRun) (is : IsNext z (2 ^ order) last from next) where
  passes_full : (to : ℕ) → from ≤ to → to ≤ run_count z (2 ^ order) → ((k : ℕ) → from ≤ k → k < to → free_in_run (is_free z) order k < least_free (2 ^ order) next) → IsNext z (2 ^ order) last to next
  passes_full to on within full = walk_passes z (2 ^ order) last next from to is on (misses next is full) where
    misses : (next : Option OpenRun) → IsNext z (2 ^ order) last from next → ((k : ℕ) → from ≤ k → k < to → free_in_run (is_free z) order k < least_free (2 ^ order) next) → (k : ℕ) → from ≤ k → k < to → is_open z (2 ^ order) k ≡ true → Misses z (2 ^ order) last next k
    misses None is full k low high o = absurd (omega (arith, full k low high))
    misses (Some r) is full k low high o =
        misses_dear z (2 ^ order) last r k is.run (omega (arith, is.below, low)) (omega (arith, full k low high, found_fits z (2 ^ order) last (Some r) from is, free_or_used z order k (omega (arith, high, within)) o))

  pub walk_reaches : (number : ℕ) → IsLowestWith (free_in_run (is_free z) order) (run_count z (2 ^ order)) from (least_free (2 ^ order) next) number → IsNext z (2 ^ order) last number next
  walk_reaches number found = passes_full number found.above (omega (arith, found.within)) found.fewer

  pub walk_over : from ≤ run_count z (2 ^ order) → ((k : ℕ) → from ≤ k → k < run_count z (2 ^ order) → free_in_run (is_free z) order k < least_free (2 ^ order) next) → IsNext z (2 ^ order) last (run_count z (2 ^ order)) next
  walk_over within full = passes_full (run_count z (2 ^ order)) within (omega arith) full

  -- it has fewer, if it is open
  pub fewer_pages : (r : OpenRun) → IsOpenRun z (2 ^ order) r → least_free (2 ^ order) next ≤ free_in_run (is_free z) order r.number → IfSome next (λ n. r.pages < n.pages)
  fewer_pages r run enough = by_next next enough where
    by_next : (next : Option OpenRun) → least_free (2 ^ order) next ≤ free_in_run (is_free z) order r.number → IfSome next (λ n. r.pages < n.pages)
    by_next None enough = tt
    by_next (Some n) enough = omega (arith, enough, run.pages, free_or_used z order r.number run.within run.opened)

-- the first n of these frames are those of the runs of the ranks below n
pub record IsPickedUpto (z : ZoneState) (order : ℕ) (firsts : List ℕ) (n : ℕ) : Type 0 where
  pub block : (place : ℕ) → place < n → has_block z order (slice_index firsts place) ≡ true
  pub opened : (place : ℕ) → place < n → is_open z (2 ^ order) (slice_index firsts place / 2 ^ order) ≡ true
  pub ranked : (place : ℕ) → place < n → rank z (2 ^ order) (slice_index firsts place / 2 ^ order) ≡ place

-- the next run is written after them
module _ (z : ZoneState) (order : ℕ) (firsts : List ℕ) (n : ℕ) (is : IsPickedUpto z order firsts n) (within : n < length firsts) (r : OpenRun) (run : IsOpenRun z (2 ^ order) r) (first : ℕ) (at : first ≡ 2 ^ order * r.number) (next : rank z (2 ^ order) r.number ≡ n) where
  here : slice_index (slice_set firsts n first) n ≡ first
  here = get_or-set_same firsts n first 0 within

  there : (place : ℕ) → place ≢ n → slice_index (slice_set firsts n first) place ≡ slice_index firsts place
  there place apart = get_or-set_other firsts n place first 0 apart

  number_is : first / 2 ^ order ≡ r.number
  number_is = ap (λ (k : ℕ). k / 2 ^ order) at ∙ start_number z order r.number run.within

  by_place : (P : ℕ → ℕ → Type 0) → P n first → ((place : ℕ) → place < n → P place (slice_index firsts place)) → (place : ℕ) → place < n + 1 → P place (slice_index (slice_set firsts n first) place)
  by_place P last old place h = elim (eqb_tells place n) [
    | inl same ↦ subst (λ (k : ℕ). P k (slice_index (slice_set firsts n first) k)) (sym same.1) (subst (P n) (sym here) last)
    | inr other ↦ subst (P place) (sym (there place other.1)) (old place (omega (arith, h, other.1)))
  ]

  pub picks_more : IsPickedUpto z order (slice_set firsts n first) (n + 1)
  picks_more = record {
    block = by_place (λ place k. has_block z order k ≡ true) (ap (has_block z order) at ∙ start_block z order r.number run.within) is.block;
    opened = by_place (λ place k. is_open z (2 ^ order) (k / 2 ^ order) ≡ true) (ap (is_open z (2 ^ order)) number_is ∙ run.opened) is.opened;
    ranked = by_place (λ place k. rank z (2 ^ order) (k / 2 ^ order) ≡ place) (ap (rank z (2 ^ order)) number_is ∙ next) is.ranked;
  }

-- an open run before which no other goes, by its first frame
module _ (z : ZoneState) (order : ℕ) (r : OpenRun) (run : IsOpenRun z (2 ^ order) r) (ranked : rank z (2 ^ order) r.number ≡ 0) (first : ℕ) (at : first ≡ 2 ^ order * r.number) where
  pub first_picked : ArePicked z order (first ∷ [])
  first_picked =
      let none : IsPickedUpto z order (first ∷ []) 0 = record { block = λ place h. absurd (omega (arith, h)); opened = λ place h. absurd (omega (arith, h)); ranked = λ place h. absurd (omega (arith, h)) } in
      let picked = picks_more z order (first ∷ []) 0 none (omega arith) r run first at ranked in
      record { block = picked.block; opened = picked.opened; ranked = picked.ranked }

  pub first_cost : r.pages ≡ cost z (2 ^ order) (first / 2 ^ order)
  first_cost = run.pages ∙ ap (cost z (2 ^ order)) (sym (ap (λ (k : ℕ). k / 2 ^ order) at ∙ start_number z order r.number run.within))

  pub first_least : r.pages ≡ least 1 z (2 ^ order)
  first_least = omega (arith, least_next z (2 ^ order) r 0 run ranked)

  pub first_claimed : claim_refusal z first order ≡ None
  first_claimed = λ i. if not (first_picked.block 0 (omega arith) i) then Some Range else if not (first_picked.opened 0 (omega arith) i) then Some NoBlock else None

-- the pages of the cheapest runs are no more than their frames
pub pages_fit : (z : ZoneState) (size pages n : ℕ) (r : OpenRun) → IsOpenRun z size r → pages ≤ size * n → nat_lt n (length (costs z size)) ≡ true → (pages + r.pages ≤ size * (n + 1)) × (pages + r.pages ≤ frame_count z)
pages_fit z size pages n r run few there =
    let most : r.pages ≤ size = omega (arith, run.pages, count_from_most (is_used z) (size * r.number) size) in
    let low : n < run_count z size = omega (arith, ltb-true _ _ there, costs_counted (is_open z size) (cost z size) (run_count z size), count_most (is_open z size) (run_count z size)) in
    (omega (arith, most, few), omega (arith, most, few, run_fits size (frame_count z) n low))

-- runs that are open fit into the zone
pub runs_fit : (z : ZoneState) (size n : ℕ) → 0 < size → nat_le n (length (costs z size)) ≡ true → (n ≤ frame_count z) × (size * n ≤ frame_count z)
runs_fit z size n some few = by_count n (omega (arith, leb-true _ _ few, costs_counted (is_open z size) (cost z size) (run_count z size), count_most (is_open z size) (run_count z size))) where
  no_less : (k : ℕ) → k ≤ size * k
  no_less zero = omega arith
  no_less (suc k) = omega (arith, some, no_less k)

  by_count : (n : ℕ) → n ≤ run_count z size → (n ≤ frame_count z) × (size * n ≤ frame_count z)
  by_count zero h = let none : size * 0 ≡ 0 = omega arith in (omega arith, omega (arith, none))
  by_count (suc k) h = let fits = run_fits size (frame_count z) k (omega (arith, h)) in (omega (arith, fits, some, no_less k), omega (arith, fits))
