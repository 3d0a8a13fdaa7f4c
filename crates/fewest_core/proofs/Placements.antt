-- Whatever placement of the pages leaves runs free, as many pages are in another frame.
use Rattle.std.proofs.Common.{◌≡◌, ◌≢◌, ℕ, zero, suc, ◌+◌, ◌*◌, ◌<◌, ◌≤◌, Bool, true, false, not, ◌&&◌, ◌||◌, eqb, inl, inr, refl, sym, ap, ◌∙◌, arith}
use Rattle.std.specs.Prelude.{Option, Some, None, is_some}
use Rattle.std.specs.FinMap as map
use Rattle.std.proofs.lemmas.Bool.{and_parts, and_from, or_from, or_parts, not-true, eq-eqb, eqb-true, ne_eqb, both_ways, cases_Bool}
use Rattle.frame_core.proofs.Searches.{some_at, some_one, some_none, none_some, count_from_full}
use Rattle.frame_core.specs.Below.{one_if, count_below, count_from, some_below}
use Rattle.state_core.proofs.Runs.{is_run, count_from_none}
use Rattle.state_core.specs.Packed.{is_unmarked, places_now, frame_of, is_place, is_left_free, left_runs}
use Rattle.state_core.specs.Pairs.{is_marked, can_move}
use Rattle.state_core.specs.ZoneState.{ZoneState, frame_count, takes_up, is_used, is_held}
use Rattle.state_core.specs.declared.placement.Placement.{Placement}
use Rattle.state_core.specs.declared.placement.Placement.TheVariants.{At, Moving}
use Rattle.fewest_core.specs.FewestMoves.{run_count, cost, cost_below, is_moving, has_to_stay, is_immovable, is_shut, is_open, least, is_apart, is_elsewhere, IsRearranged}
use Rattle.fewest_core.proofs.Costs.{cheapest}
use Rattle.fewest_core.proofs.Counts.{taken, taken_within, cost_within, one_less, none_beside, none_chosen}

-- a page that keeps its frame takes up no frame that is left free
stays_away : (o : Option Placement) (place : Option ℕ) (frame : ℕ) → place ≡ frame_of o → is_some place ≡ is_some o → is_place place frame ≡ false → takes_up o frame ≡ false
stays_away None place frame same in_use away = refl
stays_away (Some (At f)) place frame same in_use away = ap (λ (p : Option ℕ). is_place p frame) (sym same) ∙ away
stays_away (Some (Moving serial source target)) place frame same in_use away = let bad : false ≡ true = ap is_some (sym same) ∙ in_use in cc

-- a page whose frame is left free is elsewhere
goes_away : (o : Option Placement) (place : Option ℕ) (frame : ℕ) → is_moving o ≡ false → is_some place ≡ is_some o → takes_up o frame ≡ true → is_place place frame ≡ false → (is_apart (frame_of o) place && is_place (frame_of o) frame) ≡ true
goes_away None place frame rests in_use takes away = cc
goes_away (Some (At f)) None frame rests in_use takes away = cc
goes_away (Some (At f)) (Some g) frame rests in_use takes away =
    let here : frame ≡ f = eqb-true frame f takes in
    and_from (not (eqb f g)) (eqb frame f) (ap not (ap (λ (k : ℕ). eqb k g) (sym here) ∙ away)) takes
goes_away (Some (Moving serial source target)) place frame rests in_use takes away = cc

module _ (z : ZoneState) (place : ℕ → Option ℕ) where
  -- whether one of the first n pages is in a frame now, and would be elsewhere
  abbrev left_by : ℕ → ℕ → Bool
  left_by n frame = some_below (λ page. is_elsewhere z place page && is_place (places_now z page) frame) n

  module _ (chosen : ℕ → Bool) (size runs : ℕ) where
    same_cost : (p q : ℕ → Bool) → ((frame : ℕ) → p frame ≡ q frame) → cost_below chosen (taken p size) runs ≡ cost_below chosen (taken q size) runs
    same_cost p q same = ap (λ (r : ℕ → Bool). cost_below chosen (taken r size) runs) (λ i frame. same frame i)

    next_page : (n : ℕ) (o : Option ℕ) (b : Bool) → places_now z n ≡ o → is_elsewhere z place n ≡ b → cost_below chosen (taken (left_by (suc n)) size) runs ≤ cost_below chosen (taken (left_by n) size) runs + one_if (is_elsewhere z place n)
    next_page n None b at is =
        let none : (frame : ℕ) → left_by (suc n) frame ≡ left_by n frame = λ frame. ap (λ (p : Option ℕ). (is_apart p (place n) && is_place p frame) || left_by n frame) at in
        omega (arith, same_cost (left_by (suc n)) (left_by n) none)
    next_page n (Some f) false at is =
        let none : (frame : ℕ) → left_by (suc n) frame ≡ left_by n frame = λ frame. ap (λ (b : Bool). (b && is_place (places_now z n) frame) || left_by n frame) is in
        omega (arith, same_cost (left_by (suc n)) (left_by n) none)
    next_page n (Some f) true at is =
        let other : (frame : ℕ) → frame ≢ f → left_by (suc n) frame ≡ left_by n frame = λ frame ne. (λ i. (is i && is_place (at i) frame) || left_by n frame) ∙ ap (λ (b : Bool). b || left_by n frame) (ne_eqb frame f ne) in
        omega (arith, ap one_if is, one_less chosen (left_by (suc n)) (left_by n) f size (λ run frame _ _ _ ne was. sym (other frame ne) ∙ was) runs)

    pages_pay : (n : ℕ) → cost_below chosen (taken (left_by n) size) runs ≤ count_below (is_elsewhere z place) n
    pages_pay zero = omega (arith, none_chosen (left_by 0) chosen size runs (λ run is. count_from_none (left_by 0) (size * run) size (λ k h. refl)))
    pages_pay (suc n) = omega (arith, next_page n (places_now z n) (is_elsewhere z place n) refl refl, pages_pay n)

  -- whether a frame of an unmarked pageblock would be free
  abbrev left_free : ℕ → Bool
  left_free frame = is_unmarked z frame && is_left_free z place frame

  module _ (moved : IsRearranged z place) where
    not_placed : (frame page : ℕ) → left_free frame ≡ true → page < frame_count z → is_place (place page) frame ≡ false
    not_placed frame page free known =
        let parts = and_parts (not (some_below (λ p. is_place (place p) frame) (frame_count z))) (not (is_held z frame)) (and_parts (is_unmarked z frame) (is_left_free z place frame) free).1 in
        some_none (λ p. is_place (place p) frame) (frame_count z) (not-true _ parts.0) page known

    away_by : (frame page : ℕ) (b : Bool) → has_to_stay z page ≡ b → left_free frame ≡ true → page < frame_count z → (has_to_stay z page && takes_up (map.get z.placement page) frame) ≡ false
    away_by frame page false stays free known = ap (λ (b : Bool). b && takes_up (map.get z.placement page) frame) stays
    away_by frame page true stays free known =
        ap (λ (b : Bool). b && takes_up (map.get z.placement page) frame) stays
        ∙ stays_away (map.get z.placement page) (place page) frame (moved.stay page stays) (moved.placed.same_pages page) (not_placed frame page free known)

    left_open : (frame : ℕ) → left_free frame ≡ true → is_shut z frame ≡ false
    left_open frame free =
        let parts = and_parts (is_unmarked z frame) (is_left_free z place frame) free in
        let inner = and_parts (not (some_below (λ p. is_place (place p) frame) (frame_count z))) (not (is_held z frame)) parts.1 in
        let kept : is_immovable z frame ≡ false = none_some (λ page. has_to_stay z page && takes_up (map.get z.placement page) frame) (frame_count z) (λ page h. away_by frame page (has_to_stay z page) refl free h) in
        or_from (is_marked z frame) _ (not-true _ parts.0) (or_from (is_held z frame) _ (not-true _ inner.1) kept)

    used_left : (frame : ℕ) → left_free frame ≡ true → is_used z frame ≡ true → left_by (frame_count z) frame ≡ true
    used_left frame free used = by_page (some_one (λ page. takes_up (map.get z.placement page) frame) (frame_count z) used) where
      by_page : (q : ℕ) × (q < frame_count z) × (takes_up (map.get z.placement q) frame ≡ true) → left_by (frame_count z) frame ≡ true
      by_page w = elim (cases_Bool (has_to_stay z w.0)) [
        | inl stays ↦ absurd (both_ways _ (away_by frame w.0 true stays free w.1) (and_from (has_to_stay z w.0) _ stays w.2))
        | inr goes ↦ some_at (λ page. is_elsewhere z place page && is_place (places_now z page) frame) (frame_count z) w.0 w.1
            (goes_away (map.get z.placement w.0) (place w.0) frame (or_parts (is_moving (map.get z.placement w.0)) (not (can_move z w.0)) goes).0 (moved.placed.same_pages w.0) w.2 (not_placed frame w.0 free w.1))
      ]

    pub fewest_elsewhere : (size n : ℕ) → n ≤ left_runs z place size → least n z size ≤ count_below (is_elsewhere z place) (frame_count z)
    fewest_elsewhere size n enough =
        let chosen = is_run left_free size in
        let runs = run_count z size in
        let full : (run : ℕ) → chosen run ≡ true → count_from left_free (size * run) size ≡ size = λ run is. eqb-true _ size is in
        let opened : (run : ℕ) → chosen run ≡ true → is_open z size run ≡ true = λ run is. eq-eqb _ 0 (none_beside (is_shut z) left_free (size * run) size left_open (full run is)) in
        let paid = cost_within chosen (cost z size) (taken (left_by (frame_count z)) size) runs (λ run is. taken_within (is_used z) (left_by (frame_count z)) size run (λ frame low high. used_left frame (count_from_full left_free (size * run) size frame (full run is) low high))) in
        omega (arith, cheapest (is_open z size) (cost z size) chosen opened n runs enough, paid, pages_pay chosen size runs (frame_count z))
