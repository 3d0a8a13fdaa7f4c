-- Each step of a round leaves what it comes to.
use Rattle.std.proofs.Common.{◌≡◌, ℕ, zero, suc, ◌≤◌, length, refl, sym, ap, subst, ◌∙◌, arith, Some, None}
use Rattle.std.specs.FinMap as map
use Rattle.frame_core.specs.declared.record.Cause.{Cause}
use Rattle.frame_core.specs.History.{pins}
use Rattle.frame_core.specs.Moves.{isolated, put_back}
use Rattle.state_core.specs.declared.placement.Placement.TheVariants.{Moving}
use Rattle.state_core.specs.Ending.{moved_to_target, put_back_to_source, HasCause}
use Rattle.state_core.specs.Isolating.{isolated_next, next_state}
use Rattle.state_core.specs.Valid.{IsValidZone}
use Rattle.state_core.specs.Rounds.{round_begun}
use Rattle.state_core.specs.ZoneState.{ZoneState, frame_count}
use Rattle.state_core.proofs.Holding.{at_rest}
use Rattle.state_core.proofs.Settled.{valid_isolated, valid_put_back}
use Rattle.zone_core.specs.Alone.{IsSeenAs, ComesTo, IsAtRest}
use Rattle.zone_core.specs.ByHand.{scan_pair, scan_step, scan_steps, all_isolated}
use Rattle.zone_core.specs.Outcome.{outcome_of}
use Rattle.zone_core.proofs.Scanner.{seen_refl, seen_trans, seen_outcome}
use Rattle.zone_core.proofs.Scanning.{by_scan, found, none_if, carried_scan, outcome_steps, frames_scan, stuck, further, within_frames, seen_steps, back_scan}
use Rattle.zone_core.proofs.Ending.{valid_move, carried_moved, outcome_moved, carried_back, seen_back}

pub comes_scan : (start z : ZoneState) → IsValidZone z → ComesTo start z → ComesTo start (scan_step z)
comes_scan start z law keeps =
    let same = back_scan z law in
    let least = keeps.least in
    let on = ap (λ n. scan_steps n (scan_step z)) (frames_scan z law) ∙ further (frame_count z) z law (within_frames z law) in
    record {
      carried = carried_scan z law keeps.carried;
      least = omega arith;
      scans = subst (λ (w : ZoneState). IsSeenAs w (all_isolated start)) (sym on) keeps.scans;
      outcome = λ none. ap outcome_of on ∙ keeps.outcome (sym same ∙ none);
    }

pub comes_move : (start z : ZoneState) (page serial source target : ℕ) → IsValidZone z → map.get z.placement page ≡ Some (Moving serial source target) → ComesTo start z → ComesTo start (moved_to_target z serial page)
comes_move start z page serial source target law at keeps =
    let moved = moved_to_target z serial page in
    let carried = carried_moved z law keeps.carried page serial source target at in
    let law' = valid_move z law keeps.carried page serial source target at in
    let same = outcome_moved z law keeps.carried page serial source target at in
    record {
      carried = carried;
      least = keeps.least;
      scans = seen_trans _ _ (all_isolated start) (seen_steps (frame_count z) moved z law' law (seen_outcome moved z same carried keeps.carried)) keeps.scans;
      outcome = λ none. outcome_steps (frame_count z) moved z law' law carried keeps.carried same ∙ keeps.outcome none;
    }

pub comes_put_back : (start z : ZoneState) (page serial source target : ℕ) (cause : Cause) → IsValidZone z → HasCause cause (pins z.records page) → map.get z.placement page ≡ Some (Moving serial source target) → ComesTo start z → ComesTo start (put_back_to_source z serial page cause)
comes_put_back start z page serial source target cause law has at keeps =
    let least = keeps.least in
    record {
      carried = carried_back z law keeps.carried page serial source target cause at;
      least = omega arith;
      scans = seen_trans _ _ (all_isolated start) (seen_steps (frame_count z) (put_back_to_source z serial page cause) z (valid_put_back z serial page source target cause law at (keeps.carried.here page serial source target at) has) law (seen_back z law keeps.carried page serial source target cause at)) keeps.scans;
      outcome = λ none. absurd (omega arith);
    }

-- a round that begins where no page is moving comes to what it comes to by hand
pub comes_begun : (start : ZoneState) → IsAtRest start → ComesTo start (round_begun start)
comes_begun start rest = record {
  carried = record {
    each = λ page serial source target at. absurd (at_rest start rest.valid (ap length rest.none_out) page serial source target at);
    here = λ page serial source target at. absurd (at_rest start rest.valid (ap length rest.none_out) page serial source target at);
  };
  least = omega arith;
  scans = seen_refl (all_isolated start);
  outcome = λ same. refl;
}

-- where the scanner stops the zone is as by hand, and it stops where as many pages were isolated as by hand

pub stopped_outcome : (start z : ZoneState) → ComesTo start z → put_back z.records ≡ put_back start.records → scan_pair z ≡ None → outcome_of z ≡ outcome_of (all_isolated start)
stopped_outcome start z keeps none e = ap outcome_of (sym (stuck (frame_count z) z e)) ∙ keeps.outcome none

pub stopped_seen : (start z : ZoneState) → ComesTo start z → scan_pair z ≡ None → IsSeenAs z (all_isolated start)
stopped_seen start z keeps e = subst (λ (w : ZoneState). IsSeenAs w (all_isolated start)) (stuck (frame_count z) z e) keeps.scans

rising : (n : ℕ) (z : ZoneState) → IsValidZone z → isolated z.records ≤ isolated (scan_steps n z).records
rising zero z law = omega arith
rising (suc n) z law = by_scan z law (λ w. isolated z.records ≤ isolated (scan_steps n w).records) (λ e. rising n z law)
    (λ pair t. omega (arith, rising n (isolated_next z pair) (valid_isolated z pair law t.is t.accepted)))

pub counted_stopped : (start z : ZoneState) → IsValidZone z → ComesTo start z → isolated z.records ≡ isolated (all_isolated start).records → scan_pair z ≡ None
counted_stopped start z law keeps count = none_if (scan_pair z) (λ pair e.
    let t = found z law pair e in
    let step : scan_step z ≡ isolated_next z pair = ap (next_state z) e in
    let more = rising (frame_count z) (isolated_next z pair) (valid_isolated z pair law t.is t.accepted) in
    let total : isolated (scan_steps (frame_count z) (isolated_next z pair)).records ≡ isolated (all_isolated start).records =
    ap (λ w. isolated (scan_steps (frame_count z) w).records) (sym step)
    ∙ ap (λ (w : ZoneState). isolated w.records) (further (frame_count z) z law (within_frames z law))
    ∙ keeps.scans.count in
    omega (arith, more, total, count))
