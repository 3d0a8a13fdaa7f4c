-- Each step of the emptying of runs keeps what the lock of a zone keeps that nobody else has.
use Rattle.std.proofs.Common.{◌≡◌, ℕ, zero, suc, ◌+◌, ◌^◌, ◌<◌, ◌≤◌, nat_lt, if◌then◌else◌, ◌∷◌, Bool, true, false, not, ◌&&◌, is_some, length, List, [], refl, sym, ap, subst, ◌∙◌, arith, Option, Some, None}
use Rattle.std.specs.FinMap as map
use Rattle.frame_core.specs.Moves.{isolated, out}
use Rattle.std.proofs.lemmas.Bool.{both_ways, eq-eqb, eqb-true, false≢true, false_from_ne_true, ltb-false, ltb-true, not-false, or_parts}
use Rattle.frame_core.proofs.Searches.{count_same, some_at, some_none, some_one}
use Rattle.fewest_core.specs.Claims.{highest_vacant, may_go}
use Rattle.fewest_core.specs.FewestMoves.{Move, costs, has_to_stay, is_immovable, is_moving, is_shut, least}
use Rattle.fewest_core.specs.Reservation.{ArePicked, is_in_runs}
use Rattle.state_core.specs.declared.error.ZoneError.{ZoneError}
use Rattle.state_core.specs.declared.error.ZoneError.TheVariants.{JournalFull}
use Rattle.state_core.specs.declared.placement.Placement.{Placement}
use Rattle.state_core.specs.declared.placement.Placement.TheVariants.{At, Moving}
use Rattle.state_core.specs.Isolating.{has_room_for_two, isolate_refusal}
use Rattle.state_core.specs.Valid.{IsValidZone}
use Rattle.state_core.specs.Pairs.{can_move, can_move_if_some, holder, is_marked}
use Rattle.state_core.specs.ZoneState.{ZoneState, frame_count, is_held, is_used, takes_up}
use Rattle.state_core.proofs.Facts.{some_is}
use Rattle.state_core.proofs.Holding.{at_rest, holder_at, holder_found}
use Rattle.worker_threads.specs.Alone.{unlent}
use Rattle.worker_threads.specs.Emptied.{HasComeTo, HasNoRun, IsEmptied, KeepsEmptied, KeepsFirstWork, StopsEmptied, WasEmptied, places_for_moves, to_go}
use Rattle.worker_threads.specs.EmptiedLaws.{all_moved, emptied_same, emptying_begins, ends_one, none_left, places_claimed, places_ended, places_sent, sends_next, sends_none}
use Rattle.worker_threads.specs.Rooms.{one_begun}
use Rattle.worker_threads.specs.Runs.{AreBlocks, Runs}
use Rattle.worker_threads.specs.Work.{next_move, none_found, page_ended, page_sent, run_refusal, still_left, work_begun, work_left, work_refusal}
use Rattle.worker_threads.specs.declared.round.Stop.{Stop}
use Rattle.worker_threads.specs.declared.round.Stop.TheVariants as stop
use Rattle.worker_threads.specs.declared.work.Work.{Work}
use Rattle.worker_threads.specs.declared.work.Work.TheVariants.{Compact, Empty}
use Rattle.zone_core.specs.Alone.{IsAtRest}
use Rattle.zone_core.proofs.Clearing.{both_same, pages_are, unshut}

-- the reason why no page is found tells of the work that is left
pub stops_left : (start : ZoneState) (runs : Runs) (work : Work) (rounds : ℕ) (z : ZoneState) → next_move work z ≡ None → StopsEmptied start runs (work_left work z) rounds (isolated z.records) (none_found work)
stops_left start runs Compact rounds z none = tt
stops_left start runs (Empty theirs) rounds z none = none_left (2 ^ theirs.order) z theirs.left none

-- where it stopped, there is no page any more
run_left : (work : Work) (z : ZoneState) (m : Move) → next_move work z ≡ Some m → HasNoRun work → HasNoRun (work_left work z)
run_left Compact z m found stopped = tt
run_left (Empty runs) z m found stopped = (let none : None ≡ Some m = sym (ap (λ (left : List ℕ). next_move (Empty (record runs { left = left })) z) stopped) ∙ found in cc)

pub goes_on_left : (start : ZoneState) (runs : Runs) (work : Work) (rounds : ℕ) (z : ZoneState) (m : Move) (reason : Stop) → next_move work z ≡ Some m → StopsEmptied start runs work rounds (isolated z.records) reason → StopsEmptied start runs (work_left work z) rounds (isolated z.records + 1) reason
goes_on_left start runs work rounds z m stop.NoneLeft found stopped = run_left work z m found stopped
goes_on_left start runs work rounds z m stop.JournalFull found stopped = λ one rest blocks. omega (arith, stopped one rest blocks)
goes_on_left start runs work rounds z m stop.Met found stopped = tt

-- where an isolation is refused, the journal hasn't two places
full_if : (z : ZoneState) (error : ZoneError) (b : Bool) → has_room_for_two z ≡ b → (if b then None else Some JournalFull) ≡ Some error → z.room ≤ length (out z.records) + 1
full_if z error true room refused = cc
full_if z error false room refused = ltb-false _ _ room

refused_left : (left : List ℕ) (z : ZoneState) (error : ZoneError) → run_refusal left (isolate_refusal z) ≡ Some error → z.room ≤ length (out z.records) + 1
refused_left [] z error refused = cc
refused_left (first ∷ firsts) z error refused = full_if z error (has_room_for_two z) refl refused

pub fills_left : (start : ZoneState) (runs : Runs) (work : Work) (rounds : ℕ) (z : ZoneState) (error : ZoneError) → work_refusal work z ≡ Some error → KeepsEmptied start runs work rounds (unlent z) → StopsEmptied start runs work rounds (isolated z.records) stop.JournalFull
fills_left start runs work rounds z error refused keeps one rest blocks =
    let is = subst (λ (n : ℕ). KeepsFirstWork start runs work n (unlent z)) one (keeps rest blocks) in
    let few = refused_left is.left z error (subst (λ (w : Work). work_refusal w z ≡ Some error) is.work_is refused) in
    omega (arith, is.places, few)

-- the pages of open runs may all go, so that those of the cheapest runs are the fewest
module _ (z : ZoneState) (order : ℕ) (firsts : List ℕ) (law : IsValidZone z) (picked : ArePicked z order firsts) where
  abbrev is_theirs : ℕ → Bool
  is_theirs = is_in_runs firsts (2 ^ order)

  -- a page that takes up a frame which isn't shut rests in it, and may go
  goes : (frame page : ℕ) → page < frame_count z → is_shut z frame ≡ false → takes_up (map.get z.placement page) frame ≡ true → may_go z frame ≡ true
  goes frame page within unshut takes =
      let movable : is_immovable z frame ≡ false = (or_parts (is_held z frame) _ (or_parts (is_marked z frame) _ unshut).1).1 in
      let free_to_go : has_to_stay z page ≡ false = not_stays (has_to_stay z page) (some_none (λ q. has_to_stay z q && takes_up (map.get z.placement q) frame) (frame_count z) movable page within ∙ refl) takes in
      rests (map.get z.placement page) refl takes (or_parts (is_moving (map.get z.placement page)) _ free_to_go)
    where
      not_stays : (b : Bool) → (b && takes_up (map.get z.placement page) frame) ≡ false → takes_up (map.get z.placement page) frame ≡ true → b ≡ false
      not_stays true none takes = absurd (both_ways _ none takes)
      not_stays false none takes = refl

      rests : (o : Option Placement) → map.get z.placement page ≡ o → takes_up o frame ≡ true → (is_moving o ≡ false) × (not (can_move z page) ≡ false) → may_go z frame ≡ true
      rests None at takes parts = cc
      rests (Some (Moving serial source target)) at takes parts = cc
      rests (Some (At f)) at takes parts =
          let same : frame ≡ f = eqb-true frame f takes in
          let holds : holder z frame ≡ Some page = holder_at z law page frame (at ∙ ap (λ (n : ℕ). Some (At n)) (sym same)) in
          ap (can_move_if_some z) holds ∙ not-false _ parts.1

  -- and a frame whose page may go is taken up
  used_if : (frame : ℕ) → may_go z frame ≡ true → is_used z frame ≡ true
  used_if frame may = by_holder (holder z frame) refl may where
    by_holder : (o : Option ℕ) → holder z frame ≡ o → can_move_if_some z o ≡ true → is_used z frame ≡ true
    by_holder None none may = cc
    by_holder (Some page) holds may =
        let here = holder_found z page frame holds in
        some_at (λ q. takes_up (map.get z.placement q) frame) (frame_count z) page (law.pages.numbered page (ap is_some here)) (ap (λ (o : Option Placement). takes_up o frame) here ∙ eq-eqb frame frame refl)

  pub picked_to_go : length firsts ≤ length (costs z (2 ^ order)) → to_go is_theirs z ≡ least (length firsts) z (2 ^ order)
  picked_to_go opened = count_same (λ frame. is_theirs frame && may_go z frame) (λ frame. is_theirs frame && is_used z frame) (frame_count z) (λ frame h. same frame (is_theirs frame) refl) ∙ pages_are z order firsts picked opened where
    same : (frame : ℕ) (b : Bool) → is_theirs frame ≡ b → (b && may_go z frame) ≡ (b && is_used z frame)
    same frame false off = refl
    same frame true there = both_same (may_go z frame) (is_used z frame) (used_if frame) (λ used.
        (let taker = some_one (λ q. takes_up (map.get z.placement q) frame) (frame_count z) used in goes frame taker.0 taker.1 (unshut z order firsts picked frame there) taker.2))

module _ (start : ZoneState) (runs : Runs) where
  -- nothing is kept of later work
  later : (work : Work) (rounds : ℕ) (z : ZoneState) → 2 ≤ rounds → KeepsFirstWork start runs work rounds z
  later work zero z many = absurd (omega (arith, many))
  later work (suc zero) z many = absurd (omega (arith, many))
  later work (suc (suc more)) z many = tt

  pub emptying_starts : (work next : Work) (rounds : ℕ) (z : ZoneState) → next ≡ Empty runs → IsValidZone z → out z.records ≡ [] → KeepsEmptied start runs work rounds (unlent z) → KeepsEmptied start runs next (one_begun rounds) (unlent (work_begun next z))
  emptying_starts work next zero z is law none keeps rest blocks =
      let same = keeps rest blocks in
      subst (λ (n : ℕ). KeepsFirstWork start runs next n (unlent (work_begun next z))) {x = 1} {y = one_begun zero} (omega arith) (record {
        left = runs.left;
        work_is = is;
        pages = 0;
        come = subst (λ (w : ZoneState). HasComeTo w runs runs.left (unlent (work_begun next z)) 0) same (subst (λ (w : Work). HasComeTo (unlent z) runs runs.left (unlent (work_begun w z)) 0) (sym is)
            (emptying_begins z runs law none (subst (λ (w : ZoneState). AreBlocks (frame_count w) runs) (sym same) blocks)));
        places =
            subst (λ (w : Work). places_for_moves (unlent (work_begun w z)) ≡ places_for_moves (unlent z)) (sym is) (places_claimed (2 ^ runs.order) runs.left z)
            ∙ ap places_for_moves same;
      })
  emptying_starts work next (suc zero) z is law none keeps rest blocks = later next (one_begun 1) (unlent (work_begun next z)) (omega arith)
  emptying_starts work next (suc (suc more)) z is law none keeps rest blocks = later next (one_begun (suc (suc more))) (unlent (work_begun next z)) (omega arith)

  -- a page is isolated
  sends : (work : Work) (z : ZoneState) (m : Move) → isolate_refusal z ≡ None → next_move work z ≡ Some m → IsEmptied start runs work (unlent z) → IsEmptied start runs (work_left work z) (unlent (page_sent work z m))
  sends work z m accepted found is =
      let theirs : Work = Empty (record { order = runs.order; left = is.left }) in
      subst (λ (w : Work). IsEmptied start runs (work_left w z) (unlent (page_sent w z m))) (sym is.work_is) (record {
        left = still_left (2 ^ runs.order) z is.left;
        work_is = refl;
        pages = is.pages + 1;
        come = sends_next start runs is.left z is.pages is.come m accepted (subst (λ (w : Work). next_move w z ≡ Some m) is.work_is found);
        places = places_sent start runs is.left z is.pages is.come m accepted ∙ is.places;
      })

  pub emptying_takes : (work : Work) (rounds : ℕ) (z : ZoneState) (m : Move) → 0 < rounds → isolate_refusal z ≡ None → next_move work z ≡ Some m → KeepsEmptied start runs work rounds (unlent z) → KeepsEmptied start runs (work_left work z) rounds (unlent (page_sent work z m))
  emptying_takes work zero z m some accepted found keeps rest blocks = absurd (omega (arith, some))
  emptying_takes work (suc zero) z m some accepted found keeps rest blocks = sends work z m accepted found (keeps rest blocks)
  emptying_takes work (suc (suc more)) z m some accepted found keeps rest blocks = tt

  -- or there is none
  stays_so : (work : Work) (z : ZoneState) → next_move work z ≡ None → IsEmptied start runs work (unlent z) → IsEmptied start runs (work_left work z) (unlent z)
  stays_so work z none is = subst (λ (w : Work). IsEmptied start runs (work_left w z) (unlent z)) (sym is.work_is) (record {
    left = still_left (2 ^ runs.order) z is.left;
    work_is = refl;
    pages = is.pages + 1;
    come = (sends_none start runs is.left z is.pages is.come (subst (λ (w : Work). next_move w z ≡ None) is.work_is none)).0;
    places = is.places;
  })

  pub emptying_finds_none : (work : Work) (rounds : ℕ) (z : ZoneState) → 0 < rounds → next_move work z ≡ None → KeepsEmptied start runs work rounds (unlent z) → KeepsEmptied start runs (work_left work z) rounds (unlent z)
  emptying_finds_none work zero z some none keeps rest blocks = absurd (omega (arith, some))
  emptying_finds_none work (suc zero) z some none keeps rest blocks = stays_so work z none (keeps rest blocks)
  emptying_finds_none work (suc (suc more)) z some none keeps rest blocks = tt

  -- the move of a page ends
  ends : (work : Work) (z : ZoneState) (page serial source target : ℕ) → IsValidZone z → map.get z.placement page ≡ Some (Moving serial source target) → IsEmptied start runs work (unlent z) → IsEmptied start runs work (unlent (page_ended work z serial page source))
  ends work z page serial source target law at is = subst (λ (w : Work). IsEmptied start runs w (unlent (page_ended w z serial page source))) (sym is.work_is) (record {
    left = is.left;
    work_is = refl;
    pages = is.pages;
    come = ends_one start runs is.left z is.pages is.come law page serial source target at;
    places = places_ended start runs is.left z is.pages is.come law page serial source target at ∙ is.places;
  })

  pub emptying_commits : (work : Work) (rounds : ℕ) (z : ZoneState) (page serial source target : ℕ) → IsValidZone z → map.get z.placement page ≡ Some (Moving serial source target) → KeepsEmptied start runs work rounds (unlent z) → KeepsEmptied start runs work rounds (unlent (page_ended work z serial page source))
  emptying_commits work zero z page serial source target law at keeps rest blocks =
      absurd (at_rest start rest.valid (ap length rest.none_out) page serial source target (sym (ap (λ (w : ZoneState). map.get w.placement page) (keeps rest blocks)) ∙ at))
  emptying_commits work (suc zero) z page serial source target law at keeps rest blocks = ends work z page serial source target law at (keeps rest blocks)
  emptying_commits work (suc (suc more)) z page serial source target law at keeps rest blocks = tt

  -- once the work has stopped, and no page is out, the runs were emptied
  pub emptying_exact : (work : Work) (z : ZoneState) (reason : Stop) → IsValidZone z → IsAtRest start → AreBlocks (frame_count start) runs → KeepsEmptied start runs work 1 (unlent z) → StopsEmptied start runs work 1 (isolated z.records) reason → out z.records ≡ [] → WasEmptied start runs (unlent z) (Some reason)
  emptying_exact work z reason law rest blocks keeps stops none =
      let is = keeps rest blocks in
      record {
        pages = is.pages;
        same = emptied_same start runs is.left z is.pages is.come law none;
        none_left = λ why. sym is.come.left_is ∙ gone is why;
        moved = λ why vacant. (let target = some_is (highest_vacant z) vacant in
            all_moved start runs z is.pages rest.valid (subst (λ (left : List ℕ). HasComeTo start runs left (unlent z) is.pages) (gone is why) is.come) law none target.0 target.1);
        full = λ why. refused_if (nat_lt (length (out z.records) + 1) z.room) (false_from_ne_true _ (λ room. filled is why (ltb-true _ _ room)));
        least = λ picked opened. picked_to_go start runs.order runs.left rest.valid picked opened;
      }
    where
      gone : (is : IsEmptied start runs work (unlent z)) → Some reason ≡ Some stop.NoneLeft → is.left ≡ []
      gone is why = (let same : reason ≡ stop.NoneLeft = cc in subst HasNoRun is.work_is (subst (StopsEmptied start runs work 1 (isolated z.records)) same stops))

      -- the journal has no room for a move
      refused_if : (b : Bool) → b ≡ false → (if b then None else Some JournalFull) ≡ Some JournalFull
      refused_if true off = absurd (false≢true (sym off))
      refused_if false off = refl

      filled : (is : IsEmptied start runs work (unlent z)) → Some reason ≡ Some stop.JournalFull → length (out z.records) + 1 < z.room → ⊥
      filled is why room =
          let same : reason ≡ stop.JournalFull = cc in
          let few = subst (StopsEmptied start runs work 1 (isolated z.records)) same stops refl rest blocks in
          omega (arith, few, is.places, room)
