-- Each step of a round of workers keeps what the lock of a zone keeps that nobody else has.
use Rattle.std.proofs.Common.{◌≡◌, ℕ, zero, suc, ◌+◌, ◌<◌, ◌≤◌, Bool, true, false, [], length, inl, inr, refl, sym, ap, subst, ◌∙◌, arith, Option, Some, None, nat_eq, is_none, if◌then◌else◌}
use Rattle.std.specs.FinMap as map
use Rattle.std.specs.Option.{option_map}
use Rattle.std.specs.FinSet as set
use Rattle.std.specs.Ordering.{nat_cmp}
use Rattle.std.proofs.lemmas.Bool.{both_ways, cond-true, eq-eqb}
use Rattle.frame_core.specs.declared.record.Cause.TheVariants.{Pinned}
use Rattle.frame_core.specs.History.{pins}
use Rattle.frame_core.specs.Moves.{isolated, out, put_back}
use Rattle.state_core.specs.declared.error.ZoneError.{ZoneError}
use Rattle.state_core.specs.declared.placement.Placement.TheVariants.{Moving}
use Rattle.state_core.specs.declared.round.Pair.{Pair}
use Rattle.state_core.specs.Ending.{committed, moved_to_target, put_back_to_source}
use Rattle.state_core.specs.Isolating.{isolate_refusal, next_state}
use Rattle.state_core.specs.LentMoves.{move_lent, move_returned}
use Rattle.state_core.specs.Pairs.{next_pair}
use Rattle.state_core.specs.Rounds.{round_begun}
use Rattle.state_core.specs.Valid.{IsValidZone}
use Rattle.state_core.specs.ZoneState.{ZoneState}
use Rattle.fewest_core.specs.FewestMoves.{Move, move_of}
use Rattle.state_core.proofs.Lending.{valid_loans}
use Rattle.state_core.proofs.Holding.{at_rest}
use Rattle.worker_threads.specs.Alone.{KeepsAlone, KeepsFirst, KeepsRound, StopsAlone, stop_by_hand, unlent}
use Rattle.worker_threads.specs.Rooms.{one_begun}
use Rattle.worker_threads.specs.Runs.{Runs}
use Rattle.worker_threads.specs.Work.{next_move, none_found, pair_of, page_ended, page_sent, stop_for, work_begun, work_left, work_refusal}
use Rattle.worker_threads.specs.declared.round.Stop.{Stop}
use Rattle.worker_threads.specs.declared.round.Stop.TheVariants.{JournalFull}
use Rattle.worker_threads.specs.declared.work.Work.{Work}
use Rattle.worker_threads.specs.declared.work.Work.TheVariants.{Compact, Empty}
use Rattle.zone_core.specs.Alone.{IsAtRest}
use Rattle.zone_core.specs.ByHand.{all_isolated, by_hand, scan_pair, scan_step}
use Rattle.zone_core.proofs.Alone.{alone_begins, alone_commits, alone_exact, alone_lets_go, alone_scans, alone_stops, alone_unpinned}
use Rattle.zone_core.specs.Outcome.{IsSame}
use Rattle.zone_core.proofs.Coming.{counted_stopped}
use Rattle.zone_core.proofs.Scanner.{refusal_same}

-- a zone stays valid where it isn't told which pages' words are lent
pub valid_unlent : (z : ZoneState) → IsValidZone z → IsValidZone (unlent z)
valid_unlent z law = valid_loans z law set.empty (λ page lent. absurd (both_ways _ (set.contains-empty nat_cmp page) lent))

-- the pair of a move that is found, or there is none
pub pair_is : (o : Option Pair) (m : Move) → option_map move_of o ≡ Some m → o ≡ Some (pair_of m)
pair_is None m found = cc
pair_is (Some pair) m found = (let same : move_of pair ≡ m = cc in λ i. Some (record { page = (same i).page; source = (same i).source; target = (same i).target }))

pub none_there : (o : Option Pair) → option_map move_of o ≡ None → o ≡ None
none_there None none = refl
none_there (Some pair) none = cc

-- a page is isolated, and its move ends
pub unlent_pair : (z : ZoneState) (pair : Pair) → isolate_refusal z ≡ None → next_pair z ≡ Some pair → scan_pair (unlent z) ≡ Some pair
unlent_pair z pair accepted found = ap (λ o. if is_none o then next_pair z else None) accepted ∙ found

pub unlent_scan : (z : ZoneState) (pair : Pair) → isolate_refusal z ≡ None → next_pair z ≡ Some pair → unlent (move_lent z pair) ≡ scan_step (unlent z)
unlent_scan z pair accepted found = sym (ap (next_state (unlent z)) (unlent_pair z pair accepted found))

pub unlent_committed : (z : ZoneState) (serial page : ℕ) → unlent (move_returned (committed z serial page) page) ≡ committed (unlent z) serial page
unlent_committed z serial page = by (nat_eq (pins z.records page) 0) where
  by : (b : Bool) → unlent (move_returned (if b then moved_to_target z serial page else put_back_to_source z serial page Pinned) page) ≡ (if b then moved_to_target (unlent z) serial page else put_back_to_source (unlent z) serial page Pinned)
  by true = refl
  by false = refl

module _ (start : ZoneState) where
  -- nothing is kept of later rounds
  later : (rounds : ℕ) (z : ZoneState) → 2 ≤ rounds → KeepsFirst start rounds z
  later zero z many = absurd (omega (arith, many))
  later (suc zero) z many = absurd (omega (arith, many))
  later (suc (suc more)) z many = tt

  pub first_begins : (rounds : ℕ) (z : ZoneState) → IsValidZone z → KeepsAlone start rounds z → KeepsAlone start (one_begun rounds) (round_begun z)
  first_begins zero z law keeps rest =
      let same = keeps rest in
      subst (λ (n : ℕ). KeepsFirst start n (round_begun z)) {x = 1} {y = one_begun zero} (omega arith) (record {
        under = alone_begins start z law (ap (λ (w : ZoneState). isolated w.records) same) (λ rest. inl same) rest;
        back = ap (λ (w : ZoneState). put_back w.records) same;
      })
  first_begins (suc zero) z law keeps rest = later (one_begun 1) (round_begun z) (omega arith)
  first_begins (suc (suc more)) z law keeps rest = later (one_begun (suc (suc more))) (round_begun z) (omega arith)

  scan_back : (z : ZoneState) (o : Option Pair) → put_back (next_state z o).records ≡ put_back z.records
  scan_back z None = refl
  scan_back z (Some pair) = refl

  pub first_scans : (rounds : ℕ) (z : ZoneState) → 0 < rounds → IsValidZone z → KeepsAlone start rounds z → KeepsAlone start rounds (scan_step z)
  first_scans zero z some law keeps rest = absurd (omega (arith, some))
  first_scans (suc zero) z some law keeps rest =
      let first = keeps rest in
      record { under = alone_scans start z law (λ rest. first.under) rest; back = scan_back z (scan_pair z) ∙ first.back }
  first_scans (suc (suc more)) z some law keeps rest = tt

  pub first_stops : (rounds : ℕ) (z : ZoneState) → scan_pair z ≡ None → KeepsAlone start rounds z → StopsAlone start rounds (isolated z.records) (stop_for Compact (isolate_refusal z))
  first_stops zero z none keeps rest = tt
  first_stops (suc zero) z none keeps rest =
      let seen = alone_stops start z (λ rest. (keeps rest).under) none rest in
      record { count_is = seen.count; reason_is = ap (stop_for Compact) (refusal_same z (all_isolated start) seen) }
  first_stops (suc (suc more)) z none keeps rest = tt

  -- where it stopped, there is no page to isolate any more
  pub first_goes_on : (rounds : ℕ) (z : ZoneState) (pair : Pair) (reason : Stop) → IsValidZone z → scan_pair z ≡ Some pair → KeepsAlone start rounds z → StopsAlone start rounds (isolated z.records) reason → StopsAlone start rounds (isolated z.records + 1) reason
  first_goes_on zero z pair reason law found keeps stopped rest = tt
  first_goes_on (suc zero) z pair reason law found keeps stopped rest = (let both : None ≡ Some pair = sym (counted_stopped start z law (keeps rest).under.comes (stopped rest).count_is) ∙ found in cc)
  first_goes_on (suc (suc later)) z pair reason law found keeps stopped rest = tt

  -- before the round, and where it has just begun, no page is moving
  never : (z : ZoneState) (page serial source target : ℕ) → IsAtRest start → z.placement ≡ start.placement → map.get z.placement page ≡ Some (Moving serial source target) → ⊥
  never z page serial source target rest same at = at_rest start rest.valid (ap length rest.none_out) page serial source target (sym (ap (λ placement. map.get placement page) same) ∙ at)

  pub first_commits : (rounds : ℕ) (z : ZoneState) (page serial source target : ℕ) → IsValidZone z → map.get z.placement page ≡ Some (Moving serial source target) → KeepsAlone start rounds z → KeepsAlone start rounds (committed z serial page)
  first_commits zero z page serial source target law at keeps rest = absurd (never z page serial source target rest (ap (λ (w : ZoneState). w.placement) (keeps rest)) at)
  first_commits (suc zero) z page serial source target law at keeps rest =
      let first = keeps rest in
      let alone = alone_lets_go start z (λ rest. first.under) in
      let none = alone_unpinned start z page serial source target rest alone at in
      let moves : committed z serial page ≡ moved_to_target z serial page = cond-true (nat_eq (pins z.records page) 0) _ _ (eq-eqb (pins z.records page) 0 none) in
      record {
        under = elim (alone_commits start z page serial source target law at alone rest) [
          | inl same ↦ absurd (never z page serial source target rest (ap (λ (w : ZoneState). w.placement) (first.under.fresh (sym (ap (λ (w : ZoneState). isolated w.records) moves) ∙ ap (λ (w : ZoneState). isolated w.records) same))) at)
          | inr under ↦ under
        ];
        back = ap (λ (w : ZoneState). put_back w.records) moves ∙ first.back;
      }
  first_commits (suc (suc more)) z page serial source target law at keeps rest = tt

  -- once it has stopped, and no page is out, it is the round by hand
  pub first_exact : (z : ZoneState) (reason : Stop) → IsValidZone z → IsAtRest start → KeepsAlone start 1 z → StopsAlone start 1 (isolated z.records) reason → out z.records ≡ [] → IsSame (by_hand start) z × (reason ≡ stop_by_hand start)
  first_exact z reason law rest keeps stops none = (
    alone_exact start z rest law (alone_lets_go start z (λ rest. (keeps rest).under)) (stops rest).count_is none (keeps rest).back,
    (stops rest).reason_is,
  )

-- the same of the zone as it is, in which work is done that is a round
module _ (start : ZoneState) where
  never_empty : {A : Type 0} (runs : Runs) → Empty runs ≡ Compact → A
  never_empty runs is = cc

  pub round_begins : (work next : Work) (rounds : ℕ) (z : ZoneState) → next ≡ Compact → IsValidZone z → KeepsRound start work rounds (unlent z) → KeepsRound start next (one_begun rounds) (unlent (work_begun next z))
  round_begins work Compact rounds z is law keeps = record { is_round = refl; keeps = first_begins start rounds (unlent z) (valid_unlent z law) keeps.keeps }
  round_begins work (Empty runs) rounds z is law keeps = never_empty runs is

  pub round_takes : (work : Work) (rounds : ℕ) (z : ZoneState) (m : Move) → 0 < rounds → IsValidZone z → isolate_refusal z ≡ None → next_move work z ≡ Some m → KeepsRound start work rounds (unlent z) → KeepsRound start (work_left work z) rounds (unlent (page_sent work z m))
  round_takes Compact rounds z m some law accepted found keeps = record {
    is_round = refl;
    keeps = subst (KeepsAlone start rounds) (sym (unlent_scan z (pair_of m) accepted (pair_is (next_pair z) m found))) (first_scans start rounds (unlent z) some (valid_unlent z law) keeps.keeps);
  }
  round_takes (Empty runs) rounds z m some law accepted found keeps = never_empty runs keeps.is_round

  pub round_finds_none : (work : Work) (rounds : ℕ) (z : ZoneState) → KeepsRound start work rounds (unlent z) → KeepsRound start (work_left work z) rounds (unlent z)
  round_finds_none Compact rounds z keeps = keeps
  round_finds_none (Empty runs) rounds z keeps = never_empty runs keeps.is_round

  -- no pair is found where none is there, or where the isolation is refused
  pub round_stops : (work : Work) (rounds : ℕ) (z : ZoneState) → work_refusal work z ≡ None → next_move work z ≡ None → KeepsRound start work rounds (unlent z) → StopsAlone start rounds (isolated z.records) (none_found work)
  round_stops Compact rounds z accepted none keeps =
      subst (StopsAlone start rounds (isolated z.records)) (ap (stop_for Compact) accepted)
      (first_stops start rounds (unlent z) ((λ i. if is_none (accepted i) then next_pair z else None) ∙ none_there (next_pair z) none) keeps.keeps)
  round_stops (Empty runs) rounds z accepted none keeps = never_empty runs keeps.is_round

  pub round_fills : (work : Work) (rounds : ℕ) (z : ZoneState) (error : ZoneError) → work_refusal work z ≡ Some error → KeepsRound start work rounds (unlent z) → StopsAlone start rounds (isolated z.records) JournalFull
  round_fills Compact rounds z error refused keeps =
      subst (StopsAlone start rounds (isolated z.records)) (ap (stop_for Compact) refused)
      (first_stops start rounds (unlent z) (λ i. if is_none (refused i) then next_pair z else None) keeps.keeps)
  round_fills (Empty runs) rounds z error refused keeps = never_empty runs keeps.is_round

  pub round_goes_on : (work : Work) (rounds : ℕ) (z : ZoneState) (m : Move) (stop : Stop) → IsValidZone z → isolate_refusal z ≡ None → next_move work z ≡ Some m → KeepsRound start work rounds (unlent z) → StopsAlone start rounds (isolated z.records) stop → StopsAlone start rounds (isolated z.records + 1) stop
  round_goes_on Compact rounds z m stop law accepted found keeps = first_goes_on start rounds (unlent z) (pair_of m) stop (valid_unlent z law) (unlent_pair z (pair_of m) accepted (pair_is (next_pair z) m found)) keeps.keeps
  round_goes_on (Empty runs) rounds z m stop law accepted found keeps = never_empty runs keeps.is_round

  pub round_commits : (work : Work) (rounds : ℕ) (z : ZoneState) (page serial source target : ℕ) → IsValidZone z → map.get z.placement page ≡ Some (Moving serial source target) → KeepsRound start work rounds (unlent z) → KeepsRound start work rounds (unlent (page_ended work z serial page source))
  round_commits Compact rounds z page serial source target law at keeps = record {
    is_round = refl;
    keeps = subst (KeepsAlone start rounds) (sym (unlent_committed z serial page)) (first_commits start rounds (unlent z) page serial source target (valid_unlent z law) at keeps.keeps);
  }
  round_commits (Empty runs) rounds z page serial source target law at keeps = never_empty runs keeps.is_round
