-- Where enough runs are open and enough frames are free, as many moves suffice as the cheapest open runs cost.
use Rattle.std.proofs.Common.{◌≡◌, ◌≢◌, ℕ, zero, suc, ◌+◌, ◌-◌, ◌*◌, ◌/◌, ◌<◌, ◌≤◌, Bool, true, false, not, ◌&&◌, cond, List, [], ◌∷◌, length, inl, inr, refl, sym, ap, ◌∙◌, arith}
use Rattle.std.specs.Prelude.{Option, Some, None, IsSome, nat_eq}
use Rattle.std.specs.FinMap as map
use Rattle.std.proofs.lemmas.Bool.{and_parts, and_from, or_parts, not-true, not-false, eq-eqb, eqb-true, both_ways, cases_Bool}
use Rattle.std.proofs.lemmas.Bool.Decides.{eqb_tells, leb_tells}
use Rattle.frame_core.proofs.Searches.{some_at, some_one, some_none, none_some, count_from_all}
use Rattle.frame_core.specs.Below.{one_if, count_below, count_from}
use Rattle.state_core.proofs.Runs.{count_split, one_more_run, quotient}
use Rattle.state_core.specs.Packed.{free_runs, unmarked_free}
use Rattle.state_core.specs.Pairs.{is_marked, can_move, is_free_unmarked}
use Rattle.state_core.specs.Valid.{IsValidZone}
use Rattle.state_core.specs.ZoneState.{ZoneState, frame_count, takes_up, is_used, is_held, is_free}
use Rattle.state_core.specs.declared.placement.Placement.{Placement}
use Rattle.state_core.specs.declared.placement.Placement.TheVariants.{At, Moving}
use Rattle.fewest_core.specs.FewestMoves.{run_count, cost, costs, cost_below, is_moving, has_to_stay, is_shut, is_open, least, Move, IsMove, after_move, after_moves, AreMoves}
use Rattle.fewest_core.proofs.Choices.{attained}
use Rattle.fewest_core.proofs.Counts.{taken, taken_within, taken_strict, count_within, count_but_one, count_apart, cost_strict, cost_part, some_paid, some_counted, none_counted}
use Rattle.fewest_core.proofs.Moves.{page_there, others_same, shut_once, free_unused, is_empty, fewest, used_at, target_not_source}

-- each page is in the zone, and a frame is of one page at most
pub record HasOwnFrames (z : ZoneState) : Type 0 where
  pub numbered : (page frame : ℕ) → takes_up (map.get z.placement page) frame ≡ true → page < frame_count z
  pub apart : (p q frame : ℕ) → takes_up (map.get z.placement p) frame ≡ true → takes_up (map.get z.placement q) frame ≡ true → p ≡ q

in_use : (o : Option Placement) (frame : ℕ) → takes_up o frame ≡ true → IsSome o
in_use None frame takes = cc
in_use (Some p) frame takes = refl

pub own_if_valid : (z : ZoneState) → IsValidZone z → HasOwnFrames z
own_if_valid z law = record { numbered = λ page frame takes. law.pages.numbered page (in_use (map.get z.placement page) frame takes); apart = law.pages.apart }

-- a page that takes up a frame and need not stay is in this frame
pub rests_at : (o : Option Placement) (frame : ℕ) → is_moving o ≡ false → takes_up o frame ≡ true → o ≡ Some (At frame)
rests_at None frame rests takes = cc
rests_at (Some (At f)) frame rests takes = ap (λ (k : ℕ). Some (At k)) (sym (eqb-true frame f takes))
rests_at (Some (Moving serial source target)) frame rests takes = cc

module _ (z : ZoneState) (m : Move) (is : IsMove z m) where
  target_alone : (frame : ℕ) → takes_up (map.get (after_move z m).placement m.page) frame ≡ true → frame ≡ m.target
  target_alone frame takes = eqb-true frame m.target (ap (λ (o : Option Placement). takes_up o frame) (sym (page_there z m)) ∙ takes)

  as_before : (q frame : ℕ) → q ≢ m.page → takes_up (map.get (after_move z m).placement q) frame ≡ true → takes_up (map.get z.placement q) frame ≡ true
  as_before q frame ne takes = ap (λ (o : Option Placement). takes_up o frame) (sym (others_same z m q ne)) ∙ takes

  -- a frame that is used after a move and isn't its target was used before
  pub used_before : (frame : ℕ) → frame ≢ m.target → is_used (after_move z m) frame ≡ true → is_used z frame ≡ true
  used_before frame ne used = by_page (some_one (λ page. takes_up (map.get (after_move z m).placement page) frame) (frame_count z) used) where
    by_page : (q : ℕ) × (q < frame_count z) × (takes_up (map.get (after_move z m).placement q) frame ≡ true) → is_used z frame ≡ true
    by_page w = elim (eqb_tells w.0 m.page) [
      | inl same ↦ absurd (ne (target_alone frame (ap (λ (q : ℕ). takes_up (map.get (after_move z m).placement q) frame) (sym same.1) ∙ w.2)))
      | inr other ↦ some_at (λ page. takes_up (map.get z.placement page) frame) (frame_count z) w.0 w.1 (as_before w.0 frame other.1 w.2)
    ]

  pub stays_vacant : (frame : ℕ) → frame ≢ m.target → is_free_unmarked z frame ≡ true → is_free_unmarked (after_move z m) frame ≡ true
  stays_vacant frame ne free =
      let parts = and_parts (not (is_marked z frame)) (is_free z frame) free in
      let inner = and_parts (not (is_used z frame)) (not (is_held z frame)) parts.1 in
      let unused : is_used (after_move z m) frame ≡ false = elim (cases_Bool (is_used (after_move z m) frame)) [
        | inl used ↦ absurd (both_ways _ (not-true _ inner.0) (used_before frame ne used))
        | inr none ↦ none
      ] in
      and_from (not (is_marked z frame)) (is_free (after_move z m) frame) parts.0 (and_from (not (is_used (after_move z m) frame)) (not (is_held z frame)) (ap not unused) inner.1)

  opened_still : (size run : ℕ) → is_open z size run ≡ true → is_open (after_move z m) size run ≡ true
  opened_still size run was = ap (λ (p : ℕ → Bool). nat_eq (count_from p (size * run) size) 0) (λ i frame. shut_once z m is frame i) ∙ was

  module _ (own : HasOwnFrames z) where
    no_other : (q : ℕ) → takes_up (map.get z.placement q) m.target ≡ true → ⊥
    no_other q takes = both_ways _ (free_unused z m.target is.vacant) (some_at (λ page. takes_up (map.get z.placement page) m.target) (frame_count z) q (own.numbered q m.target takes) takes)

    apart_there : (p q frame : ℕ) → p ≡ m.page → q ≢ m.page → takes_up (map.get (after_move z m).placement p) frame ≡ true → takes_up (map.get (after_move z m).placement q) frame ≡ true → ⊥
    apart_there p q frame same other here there =
        let at = target_alone frame (ap (λ (k : ℕ). takes_up (map.get (after_move z m).placement k) frame) (sym same) ∙ here) in
        no_other q (ap (takes_up (map.get z.placement q)) (sym at) ∙ as_before q frame other there)

    own_after : HasOwnFrames (after_move z m)
    own_after = record {
      numbered = λ page frame takes. elim (eqb_tells page m.page) [
        | inl same ↦ omega (arith, same.1, is.known)
        | inr other ↦ own.numbered page frame (as_before page frame other.1 takes)
      ];
      apart = λ p q frame here there. elim (eqb_tells p m.page) [
        | inl p_is ↦ elim (eqb_tells q m.page) [
          | inl q_is ↦ p_is.1 ∙ sym q_is.1
          | inr q_not ↦ absurd (apart_there p q frame p_is.1 q_not.1 here there)
        ]
        | inr p_not ↦ elim (eqb_tells q m.page) [
          | inl q_is ↦ absurd (apart_there q p frame q_is.1 p_not.1 there here)
          | inr q_not ↦ own.apart p q frame (as_before p frame p_not.1 here) (as_before q frame q_not.1 there)
        ]
      ];
    }

    pub source_unused : is_used (after_move z m) m.source ≡ false
    source_unused = none_some (λ page. takes_up (map.get (after_move z m).placement page) m.source) (frame_count z) (λ page h. elim (cases_Bool (takes_up (map.get (after_move z m).placement page) m.source)) [
      | inl takes ↦ absurd (elim (eqb_tells page m.page) [
        | inl same ↦ target_not_source z m is (sym (target_alone m.source (ap (λ (k : ℕ). takes_up (map.get (after_move z m).placement k) m.source) (sym same.1) ∙ takes)))
        | inr other ↦ other.1 (own.apart page m.page m.source (as_before page m.source other.1 takes) (ap (λ (o : Option Placement). takes_up o m.source) is.here ∙ eq-eqb m.source m.source refl))
      ])
      | inr none ↦ none
    ])

-- a frame of an unmarked pageblock that is neither handed out nor used is free
vacant_if : (z : ZoneState) (frame : ℕ) → is_shut z frame ≡ false → is_used z frame ≡ false → is_free_unmarked z frame ≡ true
vacant_if z frame unshut unused =
    let parts = or_parts (is_marked z frame) _ unshut in
    and_from (not (is_marked z frame)) (is_free z frame) (ap not parts.0) (and_from (not (is_used z frame)) (not (is_held z frame)) (ap not unused) (ap not (or_parts (is_held z frame) _ parts.1).0))

module _ (size runs : ℕ) (chosen : ℕ → Bool) where
  -- whether a frame is free and in no chosen run
  abbrev pub is_spare : ZoneState → ℕ → Bool
  is_spare z frame = is_free_unmarked z frame && not (chosen (frame / size))

  -- a zone in which the chosen runs can still be made free: there are spare frames for what they cost
  record CanEmpty (z : ZoneState) : Type 0 where
    own : HasOwnFrames z
    counted : run_count z size ≡ runs
    opened : (run : ℕ) → chosen run ≡ true → (run < runs) × (is_open z size run ≡ true)
    spare : cost_below chosen (cost z size) runs ≤ count_below (is_spare z) (frame_count z)

  record Emptied (z : ZoneState) (most : ℕ) : Type 0 where
    moves : List Move
    are : AreMoves z moves
    free : count_below chosen runs ≤ free_runs (after_moves z moves) size
    few : length moves ≤ most

  module _ (z : ZoneState) (can : CanEmpty z) where
    frame_open : (run frame : ℕ) → chosen run ≡ true → size * run ≤ frame → frame < size * run + size → is_shut z frame ≡ false
    frame_open run frame is low high = none_counted (is_shut z) (size * run) size frame (eqb-true _ 0 (can.opened run is).1) low high

    empty_if : cost_below chosen (cost z size) runs ≡ 0 → (run : ℕ) → run < runs → chosen run ≡ true → is_empty z size run ≡ true
    empty_if nothing run h is = eq-eqb _ size (count_from_all (is_free_unmarked z) (size * run) size (λ frame low high. vacant_if z frame (frame_open run frame is low high) (none_counted (is_used z) (size * run) size frame unpaid low high))) where
      unpaid : cost z size run ≡ 0
      unpaid = omega (arith, nothing, cost_part chosen (cost z size) runs run h is)

    stop : cost_below chosen (cost z size) runs ≡ 0 → (most : ℕ) → Emptied z most
    stop nothing most = record {
      moves = [];
      are = tt;
      free = omega (arith, count_within chosen (is_empty z size) runs (empty_if nothing), ap (count_below (is_empty z size)) can.counted);
      few = omega arith;
    }

    -- a move out of a chosen run, into a spare frame
    record Step : Type 0 where
      move : Move
      may : IsMove z move
      can_still : CanEmpty (after_move z move)
      less : cost_below chosen (cost (after_move z move) size) runs + 1 ≤ cost_below chosen (cost z size) runs

    module _ (m : Move) (is : IsMove z m) (spare : is_spare z m.target ≡ true) (r : ℕ) (within : r < runs) (of_it : chosen r ≡ true) (low : size * r ≤ m.source) (high : m.source < size * r + size) where
      not_target : (run frame : ℕ) → chosen run ≡ true → size * run ≤ frame → frame < size * run + size → frame ≢ m.target
      not_target run frame at from below same =
          let out = (and_parts (is_free_unmarked z m.target) (not (chosen (m.target / size))) spare).1 in
          let there : m.target / size ≡ run = quotient m.target size run (omega (arith, same)) (omega (arith, same)) in
          both_ways _ (not-true _ out) (ap chosen there ∙ at)

      cheaper : cost_below chosen (cost (after_move z m) size) runs + 1 ≤ cost_below chosen (cost z size) runs
      cheaper = cost_strict chosen (cost (after_move z m) size) (cost z size) runs r within of_it
          (taken_strict (is_used (after_move z m)) (is_used z) size r m.source low high (source_unused z m is can.own) (used_at z m.page m.source is.known is.here) (λ frame from below. used_before z m is frame (not_target r frame of_it from below)))
          (λ run at. taken_within (is_used (after_move z m)) (is_used z) size run (λ frame from below. used_before z m is frame (not_target run frame at from below)))

      fewer_spare : count_below (is_spare z) (frame_count z) ≤ count_below (is_spare (after_move z m)) (frame_count z) + 1
      fewer_spare = count_but_one (is_spare z) (is_spare (after_move z m)) (frame_count z) m.target (λ frame h ne was.
          let parts = and_parts (is_free_unmarked z frame) (not (chosen (frame / size))) was in
          and_from (is_free_unmarked (after_move z m) frame) (not (chosen (frame / size))) (stays_vacant z m is frame ne parts.0) parts.1)

      moved_out : Step
      moved_out = record {
        move = m;
        may = is;
        can_still = record {
          own = own_after z m is can.own;
          counted = can.counted;
          opened = λ run at. let old = can.opened run at in (old.0, opened_still z m is size run old.1);
          spare = omega (arith, cheaper, fewer_spare, can.spare);
        };
        less = cheaper;
      }

    out_of : (r source target page : ℕ) → r < runs → chosen r ≡ true → size * r ≤ source → source < size * r + size → page < frame_count z → takes_up (map.get z.placement page) source ≡ true → target < frame_count z → is_spare z target ≡ true → Step
    out_of r source target page within of_it low high known takes there spare =
        let unshut = frame_open r source of_it low high in
        let unkept = (or_parts (is_held z source) _ (or_parts (is_marked z source) _ unshut).1).1 in
        let both = some_none (λ q. has_to_stay z q && takes_up (map.get z.placement q) source) (frame_count z) unkept page known in
        let goes : has_to_stay z page ≡ false = elim (cases_Bool (has_to_stay z page)) [
          | inl stays ↦ absurd (both_ways _ both (and_from (has_to_stay z page) _ stays takes))
          | inr free ↦ free
        ] in
        let parts = or_parts (is_moving (map.get z.placement page)) (not (can_move z page)) goes in
        let m : Move = record { page = page; source = source; target = target } in
        let may : IsMove z m = record {
          known = known;
          here = rests_at (map.get z.placement page) source parts.0 takes;
          movable = not-false (can_move z page) parts.1;
          within = there;
          vacant = (and_parts (is_free_unmarked z target) (not (chosen (target / size))) spare).0;
        } in
        moved_out m may spare r within of_it low high

    step : 0 < cost_below chosen (cost z size) runs → Step
    unfolding count_from
    step some =
        let run = some_paid chosen (cost z size) runs some in
        let used = some_counted (λ k. is_used z (size * run.0 + k)) size run.3 in
        let page = some_one (λ q. takes_up (map.get z.placement q) (size * run.0 + used.0)) (frame_count z) used.2 in
        let spare = some_counted (is_spare z) (frame_count z) (omega (arith, can.spare, some)) in
        out_of run.0 (size * run.0 + used.0) spare.0 page.0 run.1 run.2 (omega arith) (omega (arith, used.1)) page.1 page.2 spare.1 spare.2

  empty : (most : ℕ) (z : ZoneState) → CanEmpty z → cost_below chosen (cost z size) runs ≤ most → Emptied z most
  empty zero z can within = stop z can (omega (arith, within)) 0
  empty (suc most) z can within = elim (leb_tells 1 (cost_below chosen (cost z size) runs)) [
    | inl some ↦
        (let next = step z can (omega (arith, some.1)) in
        let rest = empty most (after_move z next.move) next.can_still (omega (arith, next.less, within)) in
        record { moves = next.move ∷ rest.moves; are = (next.may, rest.are); free = rest.free; few = omega (arith, rest.few) })
    | inr none ↦ stop z can (omega (arith, none.1)) (suc most)
  ]

  module _ (z : ZoneState) (opened : (run : ℕ) → chosen run ≡ true → (run < runs) × (is_open z size run ≡ true)) where
    run_filled : (run : ℕ) → taken (is_used z) size run + taken (is_free_unmarked z) size run ≤ size
    unfolding count_from
    run_filled run = count_apart (λ k. is_used z (size * run + k)) (λ k. is_free_unmarked z (size * run + k)) size (λ k. free_unused z (size * run + k))

    spare_outside : (run frame : ℕ) → chosen run ≡ false → size * run ≤ frame → frame < size * run + size → is_free_unmarked z frame ≡ true → is_spare z frame ≡ true
    spare_outside run frame out low high free = and_from (is_free_unmarked z frame) (not (chosen (frame / size))) free (ap not (ap chosen (quotient frame size run low high) ∙ out))

    next_run : (run : ℕ) (b : Bool) → chosen run ≡ b → taken (is_free_unmarked z) size run + cond (chosen run) (cost z size run) 0 ≤ taken (is_spare z) size run + size * one_if (chosen run)
    next_run run true is =
        let paid : cond (chosen run) (cost z size run) 0 ≡ cost z size run = ap (λ (b : Bool). cond b (cost z size run) 0) is in
        let whole : size * one_if (chosen run) ≡ size = ap (λ (b : Bool). size * one_if b) is ∙ omega arith in
        omega (arith, paid, whole, run_filled run)
    next_run run false is =
        let paid : cond (chosen run) (cost z size run) 0 + 0 ≡ 0 = ap (λ (b : Bool). cond b (cost z size run) 0 + 0) is in
        omega (arith, paid, taken_within (is_free_unmarked z) (is_spare z) size run (λ frame low high. spare_outside run frame is low high))

    upto : (m : ℕ) → count_below (is_free_unmarked z) (size * m) + cost_below chosen (cost z size) m ≤ count_below (is_spare z) (size * m) + size * count_below chosen m
    upto zero = let none : size * 0 ≡ 0 = omega arith in omega (arith, ap (count_below (is_free_unmarked z)) none)
    upto (suc m) = omega (arith, one_more_run (is_free_unmarked z) size m, one_more_run (is_spare z) size m, next_run m (chosen m) refl, upto m)

    pub past : (frames : ℕ) → size * runs ≤ frames → frames < size * runs + size → chosen runs ≡ false → count_below (is_free_unmarked z) frames + cost_below chosen (cost z size) runs ≤ count_below (is_spare z) frames + size * count_below chosen runs
    unfolding count_from
    past frames low high out =
        let rest = frames - size * runs in
        let all : size * runs + rest ≡ frames = omega arith in
        let more = count_within (λ k. is_free_unmarked z (size * runs + k)) (λ k. is_spare z (size * runs + k)) rest (λ k h. spare_outside runs (size * runs + k) out (omega arith) (omega arith)) in
        omega (
          arith,
          ap (count_below (is_free_unmarked z)) all,
          ap (count_below (is_spare z)) all,
          count_split (is_free_unmarked z) (size * runs) rest,
          count_split (is_spare z) (size * runs) rest,
          more,
          upto runs,
        )

    none_past : chosen runs ≡ false
    none_past = elim (cases_Bool (chosen runs)) [
      | inl is ↦ absurd (omega (arith, (opened runs is).0))
      | inr out ↦ out
    ]

-- there is a list of as many moves as the n cheapest open runs cost, which leaves n runs free
pub reached : (size n : ℕ) (z : ZoneState) → 0 < size → IsValidZone z → n ≤ length (costs z size) → size * n ≤ unmarked_free z → (moves : List Move) × AreMoves z moves × (n ≤ free_runs (after_moves z moves) size) × (length moves ≡ least n z size)
reached size n z some law enough room =
    let runs = run_count z size in
    let choice = attained size n z enough in
    let chosen = choice.0 in
    let fit : size * runs ≤ frame_count z = omega arith in
    let over : frame_count z < size * runs + size = omega arith in
    let same : size * count_below chosen runs ≡ size * n = ap (λ (k : ℕ). size * k) choice.2 in
    let spare = past size runs chosen z choice.1 (frame_count z) fit over (none_past size runs chosen z choice.1) in
    let can : CanEmpty size runs chosen z = record { own = own_if_valid z law; counted = refl; opened = choice.1; spare = omega (arith, spare, same, room) } in
    let done = empty size runs chosen (least n z size) z can (omega (arith, choice.3)) in
    let free : n ≤ free_runs (after_moves z done.moves) size = omega (arith, done.free, choice.2) in
    let needed = fewest size n z done.moves done.are free in
    (done.moves, done.are, free, omega (arith, done.few, needed))
