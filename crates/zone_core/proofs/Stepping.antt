-- A page leaves a run in a step: what is true after it, and after so many.
use Rattle.std.proofs.Common.{◌≡◌, ◌≢◌, ℕ, zero, suc, ◌+◌, ◌<◌, ◌≤◌, Bool, true, false, not, ◌&&◌, ◌||◌, cond, length, inl, inr, refl, sym, ap, ◌∙◌, arith}
use Rattle.std.specs.Prelude.{Option, Some, None, is_some}
use Rattle.std.specs.FinMap as map
use Rattle.std.proofs.lemmas.Bool.{leb-true, le-leb, lt-ltb, and_parts, and_from, and_right, both_ways, eq-eqb, false_from_ne_true, not-true, or_from, or_parts, or_left, or_right}
use Rattle.std.proofs.lemmas.Bool.Decides.{eqb_tells}
use Rattle.frame_core.proofs.Bounds.{highest_some}
use Rattle.frame_core.proofs.Searches.{lowest_some}
use Rattle.frame_core.specs.Moves.{out}
use Rattle.state_core.specs.declared.placement.Placement.TheVariants.{At}
use Rattle.state_core.specs.Claiming.{claimed_at, is_claimed, run_claimed}
use Rattle.state_core.specs.Pairs.{can_move, can_move_if_some, holder, is_free_unmarked}
use Rattle.state_core.specs.Valid.{IsValidZone}
use Rattle.state_core.specs.ZoneState.{ZoneState, frame_count, is_free, is_held, is_handed_out, is_used, takes_up}
use Rattle.state_core.proofs.Claiming.{with_run_has}
use Rattle.state_core.proofs.Entries.{contains_insert_same, contains_insert_other}
use Rattle.state_core.proofs.Holding.{holder_found}
use Rattle.fewest_core.specs.Claims.{gone, highest_vacant, may_go, next_to_go, pages_gone}
use Rattle.fewest_core.specs.Evacuation.{has_room_for_moves, is_in_run, moved_away, moved_out}
use Rattle.state_core.specs.Isolating.{isolate_refusal}
use Rattle.state_core.specs.declared.error.ZoneError.TheVariants.{JournalFull}
use Rattle.fewest_core.specs.FewestMoves.{Move, IsMove}
use Rattle.fewest_core.proofs.Evacuation.{as_many_out}
use Rattle.fewest_core.proofs.Moves.{others_same, stays_used}
use Rattle.fewest_core.proofs.Reached.{own_if_valid, source_unused}
use Rattle.zone_core.specs.Stepping.{IsStepping}

-- no frame of a run is free
abbrev pub IsShutRun : ℕ → ℕ → ZoneState → Type 0
IsShutRun first size z = (frame : ℕ) → is_in_run first size frame ≡ true → is_free z frame ≡ false

pub stepping_begins : (first size : ℕ) (z : ZoneState) → IsShutRun first size z → IsStepping first size z z 0
stepping_begins first size z shut = record {
  number = refl;
  blocks = refl;
  shut = shut;
  kept = λ frame claim. claim;
  out_same = refl;
  room = omega arith;
  moved = omega arith;
  carried = record { flags = λ page. refl; words = λ page. refl; names = λ address. refl; others = λ page off. refl };
}

-- one page more
pub stepping_on : (first size : ℕ) (old z w : ZoneState) (n : ℕ) → IsStepping first size old z n → IsStepping first size z w 1 → IsStepping first size old w (n + 1)
stepping_on first size old z w n before step = record {
  number = step.number ∙ before.number;
  blocks = step.blocks ∙ before.blocks;
  shut = step.shut;
  kept = λ frame claim. step.kept frame (before.kept frame claim);
  out_same = step.out_same ∙ before.out_same;
  room = omega (arith, step.room, before.room);
  moved = omega (arith, step.moved, before.moved);
  carried = record {
    flags = λ page. step.carried.flags page ∙ before.carried.flags page;
    words = λ page. step.carried.words page ∙ before.carried.words page;
    names = λ address. step.carried.names address ∙ before.carried.names address;
    others = λ page off. (let still = before.carried.others page off in
        step.carried.others page (λ frame here at. off frame here (sym still ∙ at)) ∙ still);
  };
}

-- a page of a run that may go, and a frame that it may go to
module _ (first size : ℕ) (z : ZoneState) (law : IsValidZone z) (source target : ℕ) (next : next_to_go first size z ≡ Some source) (vacant : highest_vacant z ≡ Some target) where
  source_is : (source < frame_count z) × ((is_in_run first size source && may_go z source) ≡ true)
  source_is = lowest_some (λ frame. is_in_run first size frame && may_go z frame) (frame_count z) source next

  pub source_within : source < frame_count z
  source_within = source_is.0

  source_there : is_in_run first size source ≡ true
  source_there = (and_parts (is_in_run first size source) _ source_is.1).0

  target_is : (target < frame_count z) × (is_free_unmarked z target ≡ true)
  target_is = highest_some (is_free_unmarked z) (frame_count z) target vacant

  -- the frame holds a page
  pub page_there : (page : ℕ) × (holder z source ≡ Some page) × (can_move z page ≡ true)
  page_there = by_holder (holder z source) refl where
    by_holder : (o : Option ℕ) → holder z source ≡ o → (page : ℕ) × (holder z source ≡ Some page) × (can_move z page ≡ true)
    by_holder None e = absurd (both_ways _ (ap (can_move_if_some z) e) (and_parts (is_in_run first size source) _ source_is.1).1)
    by_holder (Some page) e = (page, e, sym (ap (can_move_if_some z) e) ∙ (and_parts (is_in_run first size source) _ source_is.1).1)

  module _ (page : ℕ) (holds : holder z source ≡ Some page) where
    abbrev m : Move
    m = record { page = page; source = source; target = target }

    here : map.get z.placement page ≡ Some (At source)
    here = holder_found z page source holds

    known : page < frame_count z
    known = law.pages.numbered page (ap is_some here)

    movable : can_move z page ≡ true
    movable = let there = page_there in ap (can_move_if_some z) (sym holds) ∙ (and_parts (is_in_run first size source) _ source_is.1).1

    pub may_move : IsMove z m
    may_move = record { known = known; here = here; movable = movable; within = target_is.0; vacant = target_is.1 }

    abbrev away : ZoneState
    away = moved_away z m

    -- the source is free once its page went
    pub source_free : is_free away source ≡ true
    source_free =
        let held = law.pages.clear page source (ap (λ o. takes_up o source) here ∙ eq-eqb source source refl) in
        and_from (not (is_used away source)) (not (is_held away source)) (ap not (source_unused z m may_move (own_if_valid z law))) (ap not held)

    abbrev next_zone : ZoneState
    next_zone = claimed_at away source

    pub gone_is : next_zone ≡ gone z (next_to_go first size z) (highest_vacant z)
    gone_is = sym ((λ i. gone z (next i) (vacant i)) ∙ ap (λ (o : Option ℕ). claimed_at (moved_out z o source (Some target)) source) holds)

    module _ (shut : IsShutRun first size z) (room : has_room_for_moves z 1 ≡ true) where
      enough : length (out z.records) + 2 ≤ z.room
      enough = leb-true _ _ room

      -- a frame of the run that isn't the source isn't free either
      shut_other : (frame : ℕ) → is_in_run first size frame ≡ true → frame ≢ source → is_free next_zone frame ≡ false
      shut_other frame there ne = false_from_ne_true _ (λ free.
          (let parts = and_parts (not (is_used away frame)) (not (is_held next_zone frame)) free in
          let held : is_held next_zone frame ≡ is_held z frame = ap (λ b. is_handed_out z frame || b) (contains_insert_other z.claimed source frame ne) in
          let unused : is_used z frame ≡ false = false_from_ne_true _ (λ used. both_ways _ (not-true _ parts.0) (stays_used z m may_move frame ne used)) in
          both_ways _ (shut frame there) (and_from (not (is_used z frame)) (not (is_held z frame)) (ap not unused) (ap not (sym held ∙ not-true _ parts.1)))))

      shut_source : (frame : ℕ) → frame ≡ source → is_free next_zone frame ≡ false
      shut_source frame same = and_right (not (is_used away frame)) _ (ap not (or_right (is_handed_out away frame) _ (contains_insert_same z.claimed source frame same)))

      pub goes_out : IsStepping first size z next_zone 1
      goes_out = record {
        number = refl;
        blocks = refl;
        shut = λ frame there. elim (eqb_tells frame source) [ inl same ↦ shut_source frame same.1 | inr ne ↦ shut_other frame there ne.1 ];
        kept = λ frame claim. elim (eqb_tells frame source) [ inl same ↦ contains_insert_same z.claimed source frame same.1 | inr ne ↦ contains_insert_other z.claimed source frame ne.1 ∙ claim ];
        out_same = as_many_out z m law may_move;
        room = omega (arith, enough);
        moved = omega arith;
        carried = record {
          flags = λ p. refl;
          words = λ p. refl;
          names = λ address. refl;
          others = λ p off. others_same z m p (λ same. off source source_there (ap (map.get z.placement) same ∙ here));
        };
      }

-- a page may be isolated where there is room for its move
pub accepted : (z : ZoneState) → has_room_for_moves z 1 ≡ true → isolate_refusal z ≡ None
accepted z room = ap (λ (b : Bool). cond b None (Some JournalFull)) (lt-ltb (length (out z.records) + 1) z.room (let enough = leb-true _ _ room in omega (arith, enough)))

-- while there is room for more pages, there is room for one
pub room_for_one : (first size : ℕ) (old z : ZoneState) (n pages : ℕ) → IsStepping first size old z n → n < pages → has_room_for_moves old pages ≡ true → has_room_for_moves z 1 ≡ true
room_for_one first size old z n pages is more room = let enough = leb-true _ _ room in le-leb _ _ (omega (arith, enough, is.room, is.out_same, more))

-- once no page goes, none goes any more
pub goes_no_more : (first size : ℕ) (old z : ZoneState) (n k : ℕ) → z ≡ pages_gone first size old n → gone z (next_to_go first size z) (highest_vacant z) ≡ z → z ≡ pages_gone first size old (n + k)
goes_no_more first size old z n zero is rests = let same : n + 0 ≡ n = omega arith in is ∙ sym (ap (pages_gone first size old) same)
goes_no_more first size old z n (suc k) is rests =
    let same : n + suc k ≡ suc (n + k) = omega arith in
    sym rests ∙ (λ i. let u = goes_no_more first size old z n k is rests i in gone u (next_to_go first size u) (highest_vacant u)) ∙ sym (ap (pages_gone first size old) same)

-- no frame of a run is free after its free frames were claimed
pub claimed_shut : (first size : ℕ) (z : ZoneState) → IsShutRun first size (run_claimed first size z)
claimed_shut first size z frame there = false_from_ne_true _ (λ free.
    (let parts = and_parts (not (is_used z frame)) (not (is_held (run_claimed first size z) frame)) free in
    let unheld = or_parts (is_handed_out z frame) _ (not-true _ parts.1) in
    let unclaimed = or_parts (is_claimed z frame) _ (sym (with_run_has (is_free z) z.claimed first size frame) ∙ unheld.1) in
    let free_before : is_free z frame ≡ true = and_from (not (is_used z frame)) (not (is_held z frame)) parts.0 (ap not (or_from (is_handed_out z frame) _ unheld.0 unclaimed.0)) in
    both_ways _ unclaimed.1 (and_from (is_in_run first size frame) (is_free z frame) there free_before)))

-- what was claimed stays so
pub claimed_kept : (first size : ℕ) (z : ZoneState) (frame : ℕ) → is_claimed z frame ≡ true → is_claimed (run_claimed first size z) frame ≡ true
claimed_kept first size z frame claim = with_run_has (is_free z) z.claimed first size frame ∙ or_left (is_claimed z frame) _ claim
