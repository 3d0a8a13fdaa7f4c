-- A calm round by hand whose scanners met leaves the zone packed.
use Rattle.std.proofs.Common.{◌≡◌, ℕ, zero, suc, true, cond, length, refl, sym, ap, subst, ◌∙◌, Option, None, is_none}
use Rattle.std.proofs.lemmas.Bool.{and_parts, eqb-true}
use Rattle.std.proofs.lemmas.List.{nil_from_length}
use Rattle.frame_core.specs.declared.record.Record.TheVariants.{Isolate, Moved}
use Rattle.frame_core.specs.Moves.{isolated, out}
use Rattle.state_core.specs.declared.error.ZoneError.{ZoneError}
use Rattle.state_core.specs.declared.round.Pair.{Pair}
use Rattle.state_core.specs.Isolating.{isolate_refusal}
use Rattle.state_core.specs.Valid.{IsValidZone}
use Rattle.state_core.specs.Packed.{IsPacked}
use Rattle.state_core.specs.Pairs.{HaveMet, is_calm, next_pair}
use Rattle.state_core.specs.Rounds.{round_begun}
use Rattle.state_core.specs.ZoneState.{ZoneState, frame_count, is_quiet}
use Rattle.state_core.proofs.Packing.{packed_quiet}
use Rattle.state_core.proofs.Pairing.{no_pair}
use Rattle.state_core.proofs.Quiet.{quiet_is_calm, quiet_kept}
use Rattle.state_core.proofs.Rounds.{valid_begun}
use Rattle.state_core.proofs.StaysMet.{met_moved}
use Rattle.zone_core.specs.Alone.{IsAtRest}
use Rattle.zone_core.specs.ByHand.{scan_step, scan_steps, all_isolated, moved_below, by_hand}
use Rattle.zone_core.specs.Outcome.{IsSame}
use Rattle.zone_core.proofs.ByHand.{IsMoving, one, by_one, moving_moved, moving_isolated, none_by_hand}
use Rattle.zone_core.proofs.Scanning.{by_scan, valid_scan, settled, within_frames}

-- the scanner leaves a round quiet

quiet_scan : (z : ZoneState) → IsValidZone z → is_quiet z ≡ true → is_quiet (scan_step z) ≡ true
quiet_scan z law quiet = by_scan z law (λ w. is_quiet w ≡ true) (λ e. quiet) (λ pair t. quiet_kept z.records (Isolate pair.page (isolated z.records)) z.round refl law.fingers.begun ∙ quiet)

quiet_steps : (n : ℕ) (z : ZoneState) → IsValidZone z → is_quiet z ≡ true → is_quiet (scan_steps n z) ≡ true
quiet_steps zero z law quiet = quiet
quiet_steps (suc n) z law quiet = quiet_steps n (scan_step z) (valid_scan z law) (quiet_scan z law quiet)

-- each page that is moved leaves it quiet, and brings no pair back

record IsQuietMet (z : ZoneState) : Type 0 where
  moving : IsMoving z
  quiet : is_quiet z ≡ true
  met : HaveMet z

met_one : (z : ZoneState) (n : ℕ) → IsQuietMet z → IsQuietMet (one z n)
met_one z n was = by_one z n IsQuietMet (λ stands. was) (λ s a b at. record {
  moving = moving_moved z n s a b was.moving at;
  quiet = quiet_kept z.records (Moved s) z.round refl was.moving.law.fingers.begun ∙ was.quiet;
  met = met_moved z n s a b was.moving.law (was.moving.law.fingers.swept was.quiet) at was.met;
})

met_below : (n : ℕ) (z : ZoneState) → IsQuietMet z → IsQuietMet (moved_below n z)
met_below zero z was = was
met_below (suc n) z was = met_below n (one z n) (met_one z n was)

-- so it is packed

if_no_refusal : (refusal : Option ZoneError) (pair : Option Pair) → refusal ≡ None → cond (is_none refusal) pair None ≡ None → pair ≡ None
if_no_refusal refusal pair e none = sym (ap (λ r. cond (is_none r) pair None) e) ∙ none

module _ (start : ZoneState) (law : IsValidZone start) (calm : is_calm start ≡ true) (refused : isolate_refusal (all_isolated start) ≡ None) where
  at_rest : IsAtRest start
  at_rest = record { valid = law; none_out = nil_from_length (out start.records) (eqb-true _ 0 (and_parts _ _ calm).0) }

  quiet_met : IsQuietMet (all_isolated start)
  quiet_met =
      let begun = valid_begun start law in
      let moving = moving_isolated start at_rest in
      record {
        moving = moving;
        quiet = quiet_steps (frame_count start) (round_begun start) begun (quiet_is_calm start ∙ calm);
        met = no_pair (all_isolated start) moving.law (if_no_refusal (isolate_refusal (all_isolated start)) (next_pair (all_isolated start)) refused (settled (frame_count start) (round_begun start) begun (within_frames (round_begun start) begun)));
      }

  packed_by_hand : IsPacked (by_hand start)
  packed_by_hand =
      let last = met_below (frame_count start) (all_isolated start) quiet_met in
      packed_quiet (by_hand start) last.moving.law last.quiet (ap length (none_by_hand start at_rest)) last.met

-- and so is each zone that is the same
packed_same : (z w : ZoneState) → IsSame z w → IsPacked z → IsPacked w
packed_same z w same packed =
    let there = subst IsPacked (λ i. record z { blocks = same.blocks i; marked = same.marked i; claimed = same.claimed i; handed_out = same.handed_out i; placement = same.placement i }) packed in
    record { each = there.each }

pub packed_exact : (start z : ZoneState) → IsValidZone start → is_calm start ≡ true → isolate_refusal (all_isolated start) ≡ None → IsSame (by_hand start) z → IsPacked z
packed_exact start z law calm refused same = packed_same (by_hand start) z same (packed_by_hand start law calm refused)
