-- The picked runs are emptied: what is known before, while and after.
use Rattle.std.proofs.Common.{◌≡◌, ℕ, zero, suc, ◌+◌, ◌-◌, ◌*◌, ◌/◌, ◌^◌, ◌<◌, ◌≤◌, Bool, true, false, not, ◌&&◌, cond, List, [], ◌∷◌, length, inl, inr, refl, sym, ap, subst, ◌∙◌, arith}
use Rattle.std.specs.Prelude.{Option, Some, None, nat_eq, nat_le, slice_index}
use Rattle.std.specs.List.{list_any}
use Rattle.std.proofs.lemmas.Bool.{and_from, and_left, and_parts, both_ways, cases_Bool, cond-false, cond-true, eq-eqb, eqb-true, false_from_ne_true, leb-true, or_cases, or_parts}
use Rattle.std.proofs.lemmas.Bool.Decides.{leb_tells}
use Rattle.std.proofs.lemmas.List.Folds.{list_any_at}
use Rattle.std.proofs.lemmas.Nat.{pow_pos}
use Rattle.frame_core.proofs.Searches.{count_from_all, count_from_same, count_same}
use Rattle.frame_core.specs.Below.{count_below, count_from, highest}
use Rattle.frame_core.specs.Moves.{moved, out}
use Rattle.frame_core.specs.Order.{is_aligned}
use Rattle.state_core.specs.declared.error.ZoneError.{ZoneError}
use Rattle.state_core.specs.HandingOut.{has_block, is_run}
use Rattle.state_core.specs.Packed.{unmarked_free}
use Rattle.state_core.specs.Pairs.{holder, is_free_unmarked}
use Rattle.state_core.specs.Valid.{IsValidZone}
use Rattle.state_core.specs.ZoneState.{ZoneState, frame_count, is_free, is_held, is_used}
use Rattle.state_core.proofs.Runs.{count_from_none, count_split, one_more_run, quotient}
use Rattle.fewest_core.specs.Evacuation.{is_beside, is_in_run, moved_away, moved_out}
use Rattle.fewest_core.specs.FewestMoves.{cost, cost_below, costs, is_open, is_shut, least, run_count}
use Rattle.fewest_core.specs.Reservation.{can_reserve, cleared, has_room_to_reserve, highest_beside, is_in_runs, is_picked, rank, reserve_refusal, ArePicked}
use Rattle.fewest_core.proofs.Choices.{cheapest}
use Rattle.fewest_core.proofs.Costs.{cost_of_same}
use Rattle.fewest_core.proofs.Counts.{count_within, none_counted, taken}
use Rattle.fewest_core.proofs.Ranks.{picks_from, picks_parts, rank_alone}
use Rattle.fewest_core.proofs.Reached.{is_spare, past}
use Rattle.zone_core.specs.Emptying.{HasEnough, IsEmptying, frames_beside, pages_below}
use Rattle.zone_core.proofs.Emptying.{emptying_begins, goes_on_emptying, in_run, none_above, passes_over, run_bounds, stays_emptying}
use Rattle.fewest_core.proofs.OpenRuns.{aligned, block_within}

-- two tests that imply each other are the same
pub both_same : (a b : Bool) → (a ≡ true → b ≡ true) → (b ≡ true → a ≡ true) → a ≡ b
both_same true b up down = sym (up refl)
both_same false true up down = down refl
both_same false false up down = refl

-- one of these passes
pub any_found : (p : ℕ → Bool) (xs : List ℕ) → list_any p xs ≡ true → (i : ℕ) × (i < length xs) × (p (slice_index xs i) ≡ true)
any_found p [] e = cc
any_found p (x ∷ xs) e = elim (cases_Bool (p x)) [
  | inl is ↦ (0, omega arith, is)
  | inr none ↦
      (let rest = any_found p xs (elim (or_cases (p x) _ e) [ inl is ↦ absurd (both_ways _ none is) | inr there ↦ there ]) in
      (suc rest.0, omega (arith, rest.1), rest.2))
]

run_there : (size frames k : ℕ) → 0 < size → size * k + size ≤ frames → k < frames / size
run_there size frames k some h = elim (leb_tells (frames / size) k) [
  | inr low ↦ low.1
  | inl high ↦
      (let all : frames / size + (k - frames / size) ≡ k = omega (arith, high.1) in
      let split : size * k ≡ size * (frames / size) + size * (k - frames / size) = ap (λ (m : ℕ). size * m) (sym all) ∙ spread size (frames / size) (k - frames / size) in
      let over : frames < size * (frames / size) + size = omega (arith, some) in
      absurd (omega (arith, over, split, h)))
] where
  spread : (a b c : ℕ) → a * (b + c) ≡ a * b + a * c
  spread a b c = omega arith

-- the frames of chosen runs that pass, counted run by run
module _ (size : ℕ) (chosen p : ℕ → Bool) where
  abbrev in_chosen : ℕ → Bool
  in_chosen frame = chosen (frame / size) && p frame

  one_run : (run : ℕ) (b : Bool) → chosen run ≡ b → count_from in_chosen (size * run) size ≡ cond b (taken p size run) 0
  one_run run true is = count_from_same in_chosen p (size * run) size (λ frame low high. ap (λ (b : Bool). b && p frame) (ap chosen (quotient frame size run low high) ∙ is))
  one_run run false is = count_from_none in_chosen (size * run) size (λ k h. and_left (chosen ((size * run + k) / size)) _ (ap chosen (quotient (size * run + k) size run (omega arith) (omega (arith, h))) ∙ is))

  pub run_by_run : (runs : ℕ) → count_below in_chosen (size * runs) ≡ cost_below chosen (taken p size) runs
  run_by_run zero = let none : size * 0 ≡ 0 = omega arith in ap (count_below in_chosen) none
  run_by_run (suc run) = omega (arith, one_more_run in_chosen size run, one_run run (chosen run) refl, run_by_run run)

  pub run_by_run_all : (frames runs : ℕ) → size * runs ≤ frames → frames < size * runs + size → chosen runs ≡ false → count_below in_chosen frames ≡ cost_below chosen (taken p size) runs
  run_by_run_all frames runs low high none =
      let all : size * runs + (frames - size * runs) ≡ frames = omega (arith, low) in
      omega (
        arith,
        ap (count_below in_chosen) all,
        count_split in_chosen (size * runs) (frames - size * runs),
        count_from_none in_chosen (size * runs) (frames - size * runs) (λ k h. and_left (chosen ((size * runs + k) / size)) _ (ap chosen (quotient (size * runs + k) size runs (omega arith) (omega (arith, h, high))) ∙ none)),
        run_by_run runs,
      )

two_tests : (a b : Bool) (x y : ZoneError) → cond (not a) (Some x) (cond (not b) (Some y) None) ≡ None → (a ≡ true) × (b ≡ true)
two_tests true true x y e = (refl, refl)
two_tests true false x y e = cc
two_tests false b x y e = cc

-- what isn't refused has enough open runs
pub open_enough : (z : ZoneState) (n order : ℕ) → reserve_refusal z n order ≡ None → n ≤ length (costs z (2 ^ order))
open_enough z n order accepted =
    let tests = two_tests (can_reserve z n (2 ^ order)) (has_room_to_reserve z (least n z (2 ^ order)) n) _ _ accepted in
    leb-true _ _ (and_parts (nat_le n (length (costs z (2 ^ order)))) _ tests.0).0

module _ (z : ZoneState) (order : ℕ) (firsts : List ℕ) (picked : ArePicked z order firsts) where
  abbrev size : ℕ
  size = 2 ^ order

  abbrev n : ℕ
  n = length firsts

  abbrev runs : ℕ
  runs = run_count z size

  abbrev is_in : ℕ → Bool
  is_in = is_in_runs firsts size

  abbrev first : ℕ → ℕ
  first = slice_index firsts

  -- whether a run is one of these
  abbrev chosen : ℕ → Bool
  chosen run = list_any (λ k. nat_eq (k / size) run) firsts

  starts : (i : ℕ) → i < n → size * (first i / size) ≡ first i
  starts i h = aligned z (first i) order (picked.block i h)

  pub run_within : (i : ℕ) → i < n → first i / size < runs
  run_within i h = run_there size (frame_count z) (first i / size) (pow_pos order) (omega (arith, starts i h, block_within z (first i) order (picked.block i h)))

  -- a frame of one of the runs has its number
  number_of : (i frame : ℕ) → i < n → is_in_run (first i) size frame ≡ true → frame / size ≡ first i / size
  number_of i frame h there =
      let bounds = run_bounds (first i) size frame there in
      quotient frame size (first i / size) (omega (arith, starts i h, bounds.0)) (omega (arith, starts i h, bounds.1))

  in_of_number : (i frame : ℕ) → i < n → first i / size ≡ frame / size → is_in_run (first i) size frame ≡ true
  in_of_number i frame h same =
      let at : size * (first i / size) ≡ size * (frame / size) = ap (λ (k : ℕ). size * k) same in
      let low : size * (frame / size) ≤ frame = omega arith in
      let high : frame < size * (frame / size) + size = omega (arith, pow_pos order) in
      in_run (first i) size frame (omega (arith, starts i h, at, low)) (omega (arith, starts i h, at, high))

  pub in_chosen_run : (frame : ℕ) → is_in frame ≡ chosen (frame / size)
  in_chosen_run frame = both_same (is_in frame) (chosen (frame / size))
      (λ e. let at = any_found (λ k. is_in_run k size frame) firsts e in
      list_any_at (λ k. nat_eq (k / size) (frame / size)) firsts at.0 0 at.1 (eq-eqb _ _ (sym (number_of at.0 frame at.1 at.2))))
      (λ e. let at = any_found (λ k. nat_eq (k / size) (frame / size)) firsts e in
      list_any_at (λ k. is_in_run k size frame) firsts at.0 0 at.1 (in_of_number at.0 frame at.1 (eqb-true _ _ at.2)))

  chosen_at : (run : ℕ) → chosen run ≡ true → (i : ℕ) × (i < n) × (first i / size ≡ run)
  chosen_at run e = let at = any_found (λ k. nat_eq (k / size) run) firsts e in (at.0, at.1, eqb-true _ _ at.2)

  pub chosen_open : (run : ℕ) → chosen run ≡ true → (run < runs) × (is_open z size run ≡ true)
  chosen_open run e = let at = chosen_at run e in (omega (arith, run_within at.0 at.1, at.2), ap (is_open z size) (sym at.2) ∙ picked.opened at.0 at.1)

  chosen_picked : ((i : ℕ) → i < n → (run : ℕ) × (run < runs) × (is_open z size run ≡ true) × (rank z size run ≡ i)) → (run : ℕ) → run < runs → chosen run ≡ is_picked z size n run
  chosen_picked all run h = both_same (chosen run) (is_picked z size n run)
      (λ e. let at = chosen_at run e in
      picks_from (is_open z size) (cost z size) runs n run (chosen_open run e).1 (omega (arith, ap (rank z size) at.2, picked.ranked at.0 at.1, at.1)))
      (λ e. let parts = picks_parts (is_open z size) (cost z size) runs n run e in
      let at = picked.ranked (rank z size run) parts.1 in
      list_any_at (λ k. nat_eq (k / size) run) firsts (rank z size run) 0 parts.1
      (eq-eqb _ _ (rank_alone (is_open z size) (cost z size) runs (first (rank z size run) / size) run (run_within (rank z size run) parts.1) h (picked.opened (rank z size run) parts.1) parts.0 at)))

  -- no two of the runs share a frame
  pub runs_apart : (a b frame : ℕ) → a < b → b < n → is_in_run (first a) size frame ≡ true → is_in_run (first b) size frame ≡ false
  runs_apart a b frame low h here = false_from_ne_true _ (λ there.
      let before : a < n = omega (arith, low, h) in
      let same : first a / size ≡ first b / size = sym (number_of a frame before here) ∙ number_of b frame h there in
      absurd (omega (arith, low, sym (picked.ranked a before) ∙ ap (rank z size) same ∙ picked.ranked b h)))

  pub unshut : (frame : ℕ) → is_in frame ≡ true → is_shut z frame ≡ false
  unshut frame there =
      let at = any_found (λ k. is_in_run k size frame) firsts there in
      let bounds = run_bounds (first at.0) size frame at.2 in
      none_counted (is_shut z) (size * (first at.0 / size)) size frame (eqb-true _ 0 (picked.opened at.0 at.1)) (omega (arith, starts at.0 at.1, bounds.0)) (omega (arith, starts at.0 at.1, bounds.1))

  pub in_zone : (frame : ℕ) → is_in frame ≡ true → frame < frame_count z
  in_zone frame there =
      let at = any_found (λ k. is_in_run k size frame) firsts there in
      omega (arith, (run_bounds (first at.0) size frame at.2).1, block_within z (first at.0) order (picked.block at.0 at.1))

  -- where all of their frames are free, each of the runs is
  pub runs_free : (v : ZoneState) → v.blocks ≡ z.blocks → ((frame : ℕ) → is_in frame ≡ true → is_free v frame ≡ true) → (place : ℕ) → place < n → is_run v order (first place) ≡ true
  runs_free v blocks free place h = and_from (has_block v order (first place)) _
      (ap (λ (k : ℕ). is_aligned order (first place) && nat_le (first place + size) (512 * k)) blocks ∙ picked.block place h)
      (eq-eqb (count_from (is_free v) (first place) size) size (count_from_all (is_free v) (first place) size (λ frame low high. free frame (list_any_at (λ k. is_in_run k size frame) firsts place 0 h (in_run (first place) size frame low high)))))

  chosen_is : (run : ℕ) → run < runs → chosen run ≡ is_picked z size n run
  chosen_is = chosen_picked (λ i h. (first i / size, run_within i h, picked.opened i h, picked.ranked i h))

  none_past : chosen runs ≡ false
  none_past = false_from_ne_true _ (λ e. absurd (omega (arith, (chosen_open runs e).0)))

  fit : size * runs ≤ frame_count z
  fit = omega arith

  over : frame_count z < size * runs + size
  over = omega (arith, pow_pos order)

  -- where so many runs are open, these have the fewest pages that so many have
  module _ (opened : n ≤ length (costs z size)) where
    chosen_count : count_below chosen runs ≡ n
    chosen_count = count_same chosen (is_picked z size n) runs chosen_is ∙ (cheapest size n z opened).0

    chosen_cost : cost_below chosen (cost z size) runs ≡ least n z size
    chosen_cost = cost_of_same chosen (cost z size) chosen (is_picked z size n) runs chosen_is ∙ (cheapest size n z opened).1

    pub pages_are : pages_below is_in z (frame_count z) ≡ least n z size
    pages_are = count_same (λ frame. is_in frame && is_used z frame) (λ frame. chosen (frame / size) && is_used z frame) (frame_count z) (λ frame h. ap (λ (b : Bool). b && is_used z frame) (in_chosen_run frame))
        ∙ run_by_run_all size chosen (is_used z) (frame_count z) runs fit over none_past ∙ chosen_cost

  module _ (accepted : reserve_refusal z n order ≡ None) where
    tests : (can_reserve z n size ≡ true) × (has_room_to_reserve z (least n z size) n ≡ true)
    tests = two_tests (can_reserve z n size) (has_room_to_reserve z (least n z size) n) _ _ accepted

    can : (nat_le n (length (costs z size)) ≡ true) × (nat_le (size * n) (unmarked_free z) ≡ true)
    can = and_parts (nat_le n (length (costs z size))) _ tests.0

    enough_open : n ≤ length (costs z size)
    enough_open = leb-true _ _ can.0

    pages_few : pages_below is_in z (frame_count z) ≡ least n z size
    pages_few = pages_are enough_open

    spare_are : least n z size ≤ frames_beside is_in z
    spare_are =
        let room = past size runs chosen z chosen_open (frame_count z) fit over none_past in
        let less = count_within (is_spare size runs chosen z) (is_beside is_in z) (frame_count z) (λ frame h e.
        let parts = and_parts (is_free_unmarked z frame) _ e in
        and_from (not (is_in frame)) _ (ap not (in_chosen_run frame) ∙ parts.1) parts.0) in
        let whole : size * count_below chosen runs ≡ size * n = ap (λ (k : ℕ). size * k) (chosen_count enough_open) in
        omega (arith, room, less, whole, chosen_cost enough_open, leb-true _ _ can.1)

    places : length (out z.records) + 2 * least n z size + n ≤ z.room
    places = leb-true (length (out z.records) + 2 * least n z size + n) z.room tests.1

    pub enough : HasEnough is_in z
    enough = record {
      spare = omega (arith, pages_few, spare_are);
      room = omega (arith, pages_few, places);
    }

    module _ (v : ZoneState) (m : ℕ) (is : IsEmptying is_in z v m) (all : m ≡ frame_count z) where
      done : pages_below is_in z m ≡ least n z size
      done = ap (pages_below is_in z) all ∙ pages_few

      pub all_free : (frame : ℕ) → is_in frame ≡ true → is_free v frame ≡ true
      all_free frame there =
          let done_here : frame < m = omega (arith, in_zone frame there, all) in
          let unheld : is_held v frame ≡ false = (or_parts (is_held v frame) _ (or_parts _ _ (is.unshut frame there)).1).0 in
          and_from (not (is_used v frame)) (not (is_held v frame)) (ap not (is.empty frame there done_here)) (ap not unheld)

      pub room_left : length (out v.records) + n ≤ v.room
      room_left = omega (arith, is.room, is.out_same, done, places)

      pub moved_all : moved v.records ≡ moved z.records + least n z size
      moved_all = omega (arith, is.moved, done)

-- the zone between two frames of the walk that empties runs: no frame from `top` on can take a page
pub record IsPartCleared (is_in : ℕ → Bool) (old z : ZoneState) (number top : ℕ) : Type 0 where
  pub same : z ≡ cleared is_in old number
  pub emptying : IsEmptying is_in old z number
  pub valid : IsValidZone z
  pub low : top ≤ frame_count z
  pub above : (frame : ℕ) → top ≤ frame → frame < frame_count z → is_beside is_in z frame ≡ false

pub clearing_begins : (is_in : ℕ → Bool) (z : ZoneState) → ((frame : ℕ) → is_in frame ≡ true → is_shut z frame ≡ false) → IsValidZone z → (top : ℕ) → top ≡ frame_count z → IsPartCleared is_in z z 0 top
clearing_begins is_in z unshut law top at = record {
  same = refl;
  emptying = emptying_begins is_in z unshut;
  valid = law;
  low = omega (arith, at);
  above = λ frame from below. absurd (omega (arith, from, below, at));
}

-- what is highest below a bound is highest, where none passes from the bound on
lowered : (p : ℕ → Bool) (top d : ℕ) → ((k : ℕ) → top ≤ k → k < top + d → p k ≡ false) → highest p (top + d) ≡ highest p top
lowered p top zero none = let same : top + 0 ≡ top = omega arith in ap (highest p) same
lowered p top (suc d) none =
    let next : top + suc d ≡ suc (top + d) = omega arith in
    ap (highest p) next ∙ ap (λ (b : Bool). cond b (Some (top + d)) (highest p (top + d))) (none (top + d) (omega arith) (omega arith)) ∙ lowered p top d (λ k low high. none k low (omega (arith, high)))

module _ (is_in : ℕ → Bool) (old z : ZoneState) (number top : ℕ) (is : IsPartCleared is_in old z number top) where
  one_more : suc number ≡ number + 1
  one_more = omega arith

  abbrev emptied_next : ZoneState → ZoneState
  emptied_next u = moved_out u (holder u number) number (highest_beside is_in u)

  pub highest_is : highest_beside is_in z ≡ highest (is_beside is_in z) top
  highest_is =
      let all : top + (frame_count z - top) ≡ frame_count z = omega (arith, is.low) in
      ap (highest (is_beside is_in z)) (sym all) ∙ lowered (is_beside is_in z) top (frame_count z - top) (λ k low high. is.above k low (omega (arith, high, is.low)))

  pub clears_over : is_in number ≡ false → IsPartCleared is_in old z (number + 1) top
  clears_over out = subst (λ (k : ℕ). IsPartCleared is_in old z k top) one_more (record {
    same = is.same ∙ sym (cond-false (is_in number) (emptied_next (cleared is_in old number)) (cleared is_in old number) out);
    emptying = passes_over is_in old z number is.emptying out;
    valid = is.valid;
    low = is.low;
    above = is.above;
  })

  module _ (in_it : is_in number ≡ true) where
    left_by : emptied_next z ≡ cleared is_in old (suc number)
    left_by = ap emptied_next is.same ∙ sym (cond-true (is_in number) (emptied_next (cleared is_in old number)) (cleared is_in old number) in_it)

    pub clears_none : holder z number ≡ None → IsPartCleared is_in old z (number + 1) top
    clears_none none = subst (λ (k : ℕ). IsPartCleared is_in old z k top) one_more (record {
      same = sym (ap (λ (o : Option ℕ). moved_out z o number (highest_beside is_in z)) none) ∙ left_by;
      emptying = stays_emptying is_in old z number is.emptying in_it is.valid none;
      valid = is.valid;
      low = is.low;
      above = is.above;
    })

    pub clears_one : number < frame_count old → HasEnough is_in old → (page target : ℕ) → holder z number ≡ Some page → highest_beside is_in z ≡ Some target → target < frame_count z → (next : ZoneState) → next ≡ moved_away z (record { page = page; source = number; target = target }) → IsValidZone next → IsPartCleared is_in old next (number + 1) target
    clears_one within enough page target holds found below next step law = subst (λ (k : ℕ). IsPartCleared is_in old next k target) one_more (record {
      same = step ∙ sym (λ i. moved_out z (holds i) number (found i)) ∙ left_by;
      emptying = subst (λ (u : ZoneState). IsEmptying is_in old u (suc number)) (sym step) (goes_on_emptying is_in old z number is.emptying in_it is.valid within enough page holds target found);
      valid = law;
      low = subst (λ (u : ZoneState). target ≤ frame_count u) (sym step) (omega (arith, below));
      above = subst (λ (u : ZoneState). (frame : ℕ) → target ≤ frame → frame < frame_count u → is_beside is_in u frame ≡ false) (sym step) (none_above is_in old z number is.emptying in_it is.valid within enough page holds target found);
    })

-- where none of the frames from `number` up to `last` passes
pub clears_past : (is_in : ℕ → Bool) (old z : ZoneState) (number top last : ℕ) → IsPartCleared is_in old z number top → number ≤ last → ((frame : ℕ) → number ≤ frame → frame < last → is_in frame ≡ false) → IsPartCleared is_in old z last top
clears_past is_in old z number top last is low none =
    let all : number + (last - number) ≡ last = omega (arith, low) in
    subst (λ (k : ℕ). IsPartCleared is_in old z k top) all (by_frames (last - number) (λ frame from below. none frame from (omega (arith, below, all)))) where
      by_frames : (d : ℕ) → ((frame : ℕ) → number ≤ frame → frame < number + d → is_in frame ≡ false) → IsPartCleared is_in old z (number + d) top
      by_frames zero none = let same : number ≡ number + 0 = omega arith in subst (λ (k : ℕ). IsPartCleared is_in old z k top) same is
      by_frames (suc d) none =
          let next : number + d + 1 ≡ number + suc d = omega arith in
          subst (λ (k : ℕ). IsPartCleared is_in old z k top) next (clears_over is_in old z (number + d) top (by_frames d (λ frame from below. none frame from (omega (arith, below)))) (none (number + d) (omega arith) (omega arith)))
