-- Steps of the scanner.
use Rattle.std.proofs.Common.{◌≡◌, ℕ, zero, suc, ◌+◌, ◌-◌, ◌<◌, ◌≤◌, cond, ◌∷◌, length, inl, inr, refl, sym, ap, subst, ◌∙◌, arith, Option, Some, None, is_none}
use Rattle.std.specs.FinMap as map
use Rattle.std.specs.FinSet as set
use Rattle.std.specs.Ordering.{nat_cmp}
use Rattle.std.proofs.lemmas.Bool.{and_parts, eqb-true}
use Rattle.std.proofs.lemmas.Bool.Decides.{eqb_tells}
use Rattle.frame_core.specs.declared.record.Record.TheVariants.{Isolate}
use Rattle.frame_core.specs.History.{pins}
use Rattle.frame_core.specs.Moves.{isolated, out, put_back}
use Rattle.state_core.specs.declared.error.ZoneError.{ZoneError}
use Rattle.state_core.specs.declared.placement.Placement.{Placement}
use Rattle.state_core.specs.declared.placement.Placement.TheVariants.{At, Moving}
use Rattle.state_core.specs.declared.round.Pair.{Pair}
use Rattle.state_core.specs.Isolating.{isolate_refusal, isolated_next, next_state}
use Rattle.state_core.specs.Valid.{IsValidZone}
use Rattle.state_core.specs.Pairs.{IsPair, next_pair, can_move, stands_in}
use Rattle.state_core.specs.ZoneState.{ZoneState, frame_count, takes_up}
use Rattle.state_core.proofs.Entries.{get_insert_same, get_insert_other}
use Rattle.state_core.proofs.Facts.{room_for_two}
use Rattle.state_core.proofs.Pairing.{pair_found}
use Rattle.state_core.proofs.Settled.{pair_here, valid_isolated}
use Rattle.zone_core.specs.Alone.{AreCarriedUp, IsSeenAs}
use Rattle.zone_core.specs.ByHand.{scan_pair, scan_step, scan_steps}
use Rattle.zone_core.specs.Outcome.{Outcome, outcome_of, without_ends, final_frame}
use Rattle.zone_core.proofs.Records.{isolated-without_ends}
use Rattle.zone_core.proofs.Scanner.{pair_seen, pair_of_outcome}

-- by whether the scanner takes a page

pub record IsScanned (z : ZoneState) (pair : Pair) : Type 0 where
  pub is : IsPair z pair.page pair.source pair.target
  pub accepted : isolate_refusal z ≡ None

if_accepted : (refusal : Option ZoneError) (o : Option Pair) (pair : Pair) → cond (is_none refusal) o None ≡ Some pair → (refusal ≡ None) × (o ≡ Some pair)
if_accepted None o pair e = (refl, e)
if_accepted (Some error) o pair e = cc

pub found : (z : ZoneState) → IsValidZone z → (pair : Pair) → scan_pair z ≡ Some pair → IsScanned z pair
found z law pair e =
    let parts = if_accepted (isolate_refusal z) (next_pair z) pair e in
    record { is = pair_found z law pair parts.1; accepted = parts.0 }

pub none_if : (o : Option Pair) → ((pair : Pair) → o ≡ Some pair → ⊥) → o ≡ None
none_if None never = refl
none_if (Some pair) never = absurd (never pair refl)

pub by_scan : (z : ZoneState) → IsValidZone z → (P : ZoneState → Type 0) → (scan_pair z ≡ None → P z) → ((pair : Pair) → IsScanned z pair → P (isolated_next z pair)) → P (scan_step z)
by_scan z law P none some = by (scan_pair z) refl where
  by : (o : Option Pair) → scan_pair z ≡ o → P (next_state z o)
  by None e = none e
  by (Some pair) e = some pair (found z law pair e)

-- a step leaves a valid zone valid, and moving pages go up

pub valid_scan : (z : ZoneState) → IsValidZone z → IsValidZone (scan_step z)
valid_scan z law = by_scan z law IsValidZone (λ e. law) (λ pair t. valid_isolated z pair law t.is t.accepted)

two_ways : (a s t b source target : ℕ) → Some (Moving a s t) ≡ Some (Moving b source target) → (s ≡ source) × (t ≡ target)
two_ways a s t b source target e = (cc, cc)

pub not_moving : (f s source target : ℕ) → Some (At f) ≡ Some (Moving s source target) → ⊥
not_moving f s source target e = cc

carried_isolated : (z : ZoneState) (pair : Pair) → IsValidZone z → IsScanned z pair → AreCarriedUp z → AreCarriedUp (isolated_next z pair)
carried_isolated z pair law t carried = record {
  each = λ page serial source target at.
      let way = Moving (isolated z.records) pair.source pair.target in
      elim (eqb_tells page pair.page) [
        | inl same ↦
            (let frames = two_ways _ _ _ serial source target (sym (get_insert_same z.placement pair.page page way same.1) ∙ at) in
            let from : pair.source ≡ source = frames.0 in
            let to : pair.target ≡ target = frames.1 in
            record { low = omega arith; high = omega arith; movable = ap (can_move z) same.1 ∙ t.is.from.movable })
        | inr other ↦
            (let old = carried.each page serial source target (sym (get_insert_other z.placement pair.page page way other.1) ∙ at) in
            let low = t.is.from.low in
            let high = t.is.to.high in
            record { low = omega (arith, old.low); high = omega (arith, old.high); movable = old.movable })
      ];
  here = λ page serial source target at. elim (eqb_tells page pair.page) [
    | inl same ↦ ap (set.contains z.lent_pages) same.1 ∙ pair_here z pair law t.is
    | inr other ↦ carried.here page serial source target (sym (get_insert_other z.placement pair.page page (Moving (isolated z.records) pair.source pair.target) other.1) ∙ at)
  ];
}

pub carried_scan : (z : ZoneState) → IsValidZone z → AreCarriedUp z → AreCarriedUp (scan_step z)
carried_scan z law carried = by_scan z law AreCarriedUp (λ e. carried) (λ pair t. carried_isolated z pair law t carried)

-- a moving page has no pin
pub no_pin : (z : ZoneState) → AreCarriedUp z → (page serial source target : ℕ) → map.get z.placement page ≡ Some (Moving serial source target) → pins z.records page ≡ 0
no_pin z carried page serial source target at = eqb-true (pins z.records page) 0 (and_parts _ _ (carried.each page serial source target at).movable).0

-- two zones that come to the same come to the same after the scanner's step

-- what is told of a page in two books alike still is once the same page got a new place in both
both_placed : {X : Type 0} (tell : Option Placement → X) (m n : map.FinMap nat_cmp Placement) (page q : ℕ) (p p' : Placement) → tell (Some p) ≡ tell (Some p')
    → tell (map.get m q) ≡ tell (map.get n q) → tell (map.get (map.insert m page p) q) ≡ tell (map.get (map.insert n page p') q)
both_placed tell m n page q p p' new old = elim (eqb_tells q page) [
  | inl same ↦ ap tell (get_insert_same m page q p same.1) ∙ new ∙ sym (ap tell (get_insert_same n page q p' same.1))
  | inr other ↦ ap tell (get_insert_other m page q p other.1) ∙ old ∙ sym (ap tell (get_insert_other n page q p' other.1))
]

-- what is told of a page stays where its new place tells the same
pub placed_same : {X : Type 0} (tell : Option Placement → X) (m : map.FinMap nat_cmp Placement) (page q : ℕ) (p : Placement) → tell (Some p) ≡ tell (map.get m page)
    → tell (map.get (map.insert m page p) q) ≡ tell (map.get m q)
placed_same tell m page q p new = elim (eqb_tells q page) [
  | inl same ↦ ap tell (get_insert_same m page q p same.1) ∙ new ∙ sym (ap (λ k. tell (map.get m k)) same.1)
  | inr other ↦ ap tell (get_insert_other m page q p other.1)
]

outcome_isolated : (z w : ZoneState) (pair : Pair) → 0 < z.room → 0 < w.room → outcome_of z ≡ outcome_of w → outcome_of (isolated_next z pair) ≡ outcome_of (isolated_next w pair)
outcome_isolated z w pair some_z some_w same =
    let records_same : without_ends z.records ≡ without_ends w.records = ap (λ (r : Outcome). r.records) same in
    let serial : isolated z.records ≡ isolated w.records = sym (isolated-without_ends z.records) ∙ ap isolated records_same ∙ isolated-without_ends w.records in
    let spare : z.room - length (out z.records) ≡ w.room - length (out w.records) = ap (λ (r : Outcome). r.room) same in
    let room : (z.room - 1) - length (isolated z.records ∷ out z.records) ≡ (w.room - 1) - length (isolated w.records ∷ out w.records) = omega arith in
    let both : length z.records + z.room ≡ length w.records + w.room = ap (λ (r : Outcome). r.places) same in
    let places : length (Isolate pair.page (isolated z.records) ∷ z.records) + (z.room - 1) ≡ length (Isolate pair.page (isolated w.records) ∷ w.records) + (w.room - 1) = omega arith in
    let frame = λ (q : ℕ). both_placed final_frame z.placement w.placement pair.page q (Moving (isolated z.records) pair.source pair.target) (Moving (isolated w.records) pair.source pair.target) refl (ap (λ (r : Outcome). r.frame q) same) in
    λ i. record (same i) {
      records = Isolate pair.page (serial i) ∷ records_same i;
      room = room i;
      frame = λ q. frame q i;
      migrate = pair.source + 1;
      free = pair.target;
      places = places i;
    }

pub outcome_scan : (z w : ZoneState) → AreCarriedUp z → AreCarriedUp w → outcome_of z ≡ outcome_of w → outcome_of (scan_step z) ≡ outcome_of (scan_step w)
outcome_scan z w carried_z carried_w same =
    let taken_is = pair_of_outcome z w same carried_z carried_w in
    by (scan_pair z) refl (sym taken_is) ∙ ap (λ o. outcome_of (next_state w o)) taken_is where
      by : (o : Option Pair) → scan_pair z ≡ o → scan_pair w ≡ o → outcome_of (next_state z o) ≡ outcome_of (next_state w o)
      by None e f = same
      by (Some pair) e f =
          let room_z = room_for_two z (if_accepted _ (next_pair z) pair e).0 in
          let room_w = room_for_two w (if_accepted _ (next_pair w) pair f).0 in
          outcome_isolated z w pair (omega arith) (omega arith) same

-- so many steps

pub valid_steps : (n : ℕ) (z : ZoneState) → IsValidZone z → IsValidZone (scan_steps n z)
valid_steps zero z law = law
valid_steps (suc n) z law = valid_steps n (scan_step z) (valid_scan z law)

pub carried_steps : (n : ℕ) (z : ZoneState) → IsValidZone z → AreCarriedUp z → AreCarriedUp (scan_steps n z)
carried_steps zero z law carried = carried
carried_steps (suc n) z law carried = carried_steps n (scan_step z) (valid_scan z law) (carried_scan z law carried)

pub outcome_steps : (n : ℕ) (z w : ZoneState) → IsValidZone z → IsValidZone w → AreCarriedUp z → AreCarriedUp w → outcome_of z ≡ outcome_of w → outcome_of (scan_steps n z) ≡ outcome_of (scan_steps n w)
outcome_steps zero z w law_z law_w carried_z carried_w same = same
outcome_steps (suc n) z w law_z law_w carried_z carried_w same =
    outcome_steps n (scan_step z) (scan_step w) (valid_scan z law_z) (valid_scan w law_w) (carried_scan z law_z carried_z) (carried_scan w law_w carried_w) (outcome_scan z w carried_z carried_w same)

pub frames_scan : (z : ZoneState) → IsValidZone z → frame_count (scan_step z) ≡ frame_count z
frames_scan z law = by_scan z law (λ w. frame_count w ≡ frame_count z) (λ e. refl) (λ pair t. refl)

pub frames_steps : (n : ℕ) (z : ZoneState) → IsValidZone z → frame_count (scan_steps n z) ≡ frame_count z
frames_steps zero z law = refl
frames_steps (suc n) z law = frames_steps n (scan_step z) (valid_scan z law) ∙ frames_scan z law

pub stuck : (n : ℕ) (z : ZoneState) → scan_pair z ≡ None → scan_steps n z ≡ z
stuck zero z e = refl
stuck (suc n) z e = ap (λ o. scan_steps n (next_state z o)) e ∙ stuck n z e

pub settled : (n : ℕ) (z : ZoneState) → IsValidZone z → z.free - z.migrate ≤ n → scan_pair (scan_steps n z) ≡ None
settled zero z law within = none_if (scan_pair z) (λ pair e.
    let t = found z law pair e in
    let low = t.is.from.low in
    let high = t.is.from.high in
    omega arith)
settled (suc n) z law within = by_scan z law (λ w. scan_pair (scan_steps n w) ≡ None)
    (λ e. ap scan_pair (stuck n z e) ∙ e)
    (λ pair t. let low = t.is.from.low in let up = t.is.to.low in let high = t.is.to.high in settled n (isolated_next z pair) (valid_isolated z pair law t.is t.accepted) (omega arith))

in_turn : (n : ℕ) (z : ZoneState) → scan_steps n (scan_step z) ≡ scan_step (scan_steps n z)
in_turn zero z = refl
in_turn (suc n) z = in_turn n (scan_step z)

-- where the scanner stopped, a step more changes nothing
pub further : (n : ℕ) (z : ZoneState) → IsValidZone z → z.free - z.migrate ≤ n → scan_steps n (scan_step z) ≡ scan_steps n z
further n z law within = in_turn n z ∙ ap (next_state (scan_steps n z)) (settled n z law within)

pub within_frames : (z : ZoneState) → IsValidZone z → z.free - z.migrate ≤ frame_count z
within_frames z law = let high = law.fingers.ordered.1 in omega arith

-- after a step, and after so many, the scanner still can't tell them apart

seen_isolated : (z w : ZoneState) (pair : Pair) → z.migrate ≤ pair.source → pair.target ≤ z.free → IsSeenAs z w → IsSeenAs (isolated_next z pair) (isolated_next w pair)
seen_isolated z w pair low high seen =
    let here = Moving (isolated z.records) pair.source pair.target in
    let there = Moving (isolated w.records) pair.source pair.target in
    let spare = seen.spare in
    record {
      blocks = seen.blocks;
      migrate = refl;
      free = refl;
      marked = seen.marked;
      claimed = seen.claimed;
      handed_out = seen.handed_out;
      unmovable = seen.unmovable;
      pins_are = seen.pins_are;
      count = ap (λ n. n + 1) seen.count;
      spare = omega arith;
      stands = λ q frame above below. both_placed (λ o. stands_in o frame) z.placement w.placement pair.page q here there refl (seen.stands q frame (omega arith) (omega arith));
      takes = λ q frame above below. both_placed (λ o. takes_up o frame) z.placement w.placement pair.page q here there refl (seen.takes q frame (omega arith) (omega arith));
    }

seen_scan : (z w : ZoneState) → IsValidZone z → IsSeenAs z w → IsSeenAs (scan_step z) (scan_step w)
seen_scan z w law seen = subst (λ o. IsSeenAs (scan_step z) (next_state w o)) (pair_seen z w seen) (by (scan_pair z) refl) where
  by : (o : Option Pair) → scan_pair z ≡ o → IsSeenAs (next_state z o) (next_state w o)
  by None e = seen
  by (Some pair) e =
      let t = found z law pair e in
      let high = t.is.to.high in
      seen_isolated z w pair t.is.from.low (omega arith) seen

pub seen_steps : (n : ℕ) (z w : ZoneState) → IsValidZone z → IsValidZone w → IsSeenAs z w → IsSeenAs (scan_steps n z) (scan_steps n w)
seen_steps zero z w law_z law_w seen = seen
seen_steps (suc n) z w law_z law_w seen = seen_steps n (scan_step z) (scan_step w) (valid_scan z law_z) (valid_scan w law_w) (seen_scan z w law_z seen)

pub back_scan : (z : ZoneState) → IsValidZone z → put_back (scan_step z).records ≡ put_back z.records
back_scan z law = by_scan z law (λ w. put_back w.records ≡ put_back z.records) (λ e. refl) (λ pair t. refl)

pub back_steps : (n : ℕ) (z : ZoneState) → IsValidZone z → put_back (scan_steps n z).records ≡ put_back z.records
back_steps zero z law = refl
back_steps (suc n) z law = back_steps n (scan_step z) (valid_scan z law) ∙ back_scan z law
