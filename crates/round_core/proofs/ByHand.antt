-- A round over a zone that nobody else has comes to what the round by hand comes to.
use Rattle.std.proofs.Common.{◌≡◌, ◌+◌, ◌<◌, ◌≤◌, ℕ, sym, ap, subst, ◌∙◌, arith, true, refl, Option, Some, None, IfOk, OnOk}
use Rattle.std.specs.Prelude.{Result, Ok, Err}
use Rattle.frame_core.specs.Moves.{isolated}
use Rattle.zone_core.specs.Alone.{IsAtRest, KeepsAlone, KeepsScanning}
use Rattle.zone_core.specs.ByHand.{all_isolated, by_hand, scan_pair}
use Rattle.zone_core.specs.Fingers.{IsSameInRound}
use Rattle.zone_core.specs.Outcome.{Outcome, IsSame}
use Rattle.zone_core.proofs.Alone.{alone_exact, alone_goes_on, alone_stops, alone_unbegun}
use Rattle.zone_core.proofs.ByHand.{moving_isolated, outcome_all}
use Rattle.zone_core.proofs.Coming.{counted_stopped, stopped_seen}
use Rattle.zone_core.proofs.Packed.{packed_exact}
use Rattle.zone_core.proofs.Records.{isolated_same}
use Rattle.zone_core.proofs.Scanner.{refusal_same}
use Rattle.state_core.specs.declared.error.ZoneError.{ZoneError}
use Rattle.state_core.specs.declared.information.Audit.{Audit}
use Rattle.state_core.specs.Isolating.{isolate_refusal}
use Rattle.state_core.specs.Valid.{IsValidZone}
use Rattle.state_core.specs.Packed.{IsPacked}
use Rattle.state_core.specs.Pairs.{is_calm}
use Rattle.state_core.specs.ZoneState.{ZoneState, frame_count, is_quiet}
use Rattle.zone_core.specs.Seats.{ScanSeat, EndSeat, IsAudited}
use Rattle.round_core.specs.Alone.{StopsAlone, QuietAlone}
use Rattle.round_core.specs.declared.error.RoundError.{RoundError}
use Rattle.round_core.specs.declared.round.Round.{Round}
use Rattle.round_core.specs.declared.round.Stop.TheVariants as stop
use Rattle.round_core.specs.Scanning.{HasBegun}
use Rattle.round_core.specs.Rounds.{IsRound, IsUnlimited, stop_for, stop_by_hand}
use Rattle.round_core.specs.Settling.{IsAnswered, IsRoundRun, answer_between, round_of}
use Rattle.round_core.proofs.Limits.{if_unlimited}
use Rattle.round_core.proofs.Settling.{answered, counted_by, if_counted_by}
use Rattle.round_core.specs.declared.compacting.Settlement.{Settlement}

-- the scanner goes on once it has begun, and stops as by hand

pub goes_on_alone : (start z : ZoneState) → IsValidZone z → HasBegun (λ n. n ≡ isolated start.records) (isolated z.records) → KeepsAlone start z → KeepsScanning start z
goes_on_alone start z law begun = alone_goes_on start z law (let base = begun.begun in let more = begun.more in omega arith)

pub stops_alone : (start z : ZoneState) → IsValidZone z → KeepsScanning start z → scan_pair z ≡ None → StopsAlone start (isolated z.records) (stop_for (isolate_refusal z))
stops_alone start z law keeps none rest =
    let seen = alone_stops start z keeps none rest in
    record { count_is = seen.count; stop_is = ap stop_for (refusal_same z (all_isolated start) seen) }

-- where the round isolated a page, the fingers stand where they stand after the round by hand
fingers_by_hand : (start z : ZoneState) → IsAtRest start → IsValidZone z → KeepsAlone start z → isolated start.records < isolated z.records
    → isolated z.records ≡ isolated (all_isolated start).records → IsSame (by_hand start) z → IsSameInRound (by_hand start) z
fingers_by_hand start z rest law keeps more count same =
    let comes = (alone_goes_on start z law more keeps rest).comes in
    let seen = stopped_seen start z comes (counted_stopped start z law comes count) in
    let hand = outcome_all (frame_count start) (all_isolated start) (moving_isolated start rest) in
    record {
      same = same;
      migrate = ap (λ (o : Outcome). o.migrate) hand ∙ sym seen.migrate;
      free = ap (λ (o : Outcome). o.free) hand ∙ sym seen.free;
    }

-- what a round that was answered Ok did
pub record IsByHand (start z : ZoneState) (r : Round) : Type 0 where
  pub same : IsSame (by_hand start) z
  pub fingers : 0 < r.count → IsSameInRound (by_hand start) z
  pub quiet : 0 < r.count → is_quiet z ≡ is_calm start
  pub count : isolated start.records + r.count ≡ isolated (by_hand start).records
  pub none_back : r.back ≡ 0
  pub stopped : r.stopped ≡ stop_by_hand start

-- such a round, and what its answer says of the seats
pub record IsRoundByHand (copiers : ℕ) (start z : ZoneState) (scan scan_new : ScanSeat) (ends ends_new : EndSeat) (result : Result Round RoundError) : Type 0 where
  pub answered : IsAnswered (StopsAlone start) (IsAtRest start) None copiers scan scan_new ends ends_new result
  pub unlimited : IsUnlimited result
  pub by_hand : IfOk result (IsByHand start z)
  pub unbegun : scan_new.rounds ≡ scan.rounds → IsSame start z

-- what the audits before and after a round find, with the seats that it was given and left
module _ (start z : ZoneState) (scan scan_new : ScanSeat) (ends ends_new : EndSeat) (before : Audit) (law_start : IsValidZone start) (law : IsValidZone z) (keeps : KeepsAlone start z) (quiet : QuietAlone start z)
    (found : IsAudited start scan ends before) (counted_new : scan_new.count ≡ isolated z.records) where
  at_rest : IsAtRest start
  at_rest = record { valid = law_start; none_out = found.none_out }

  counted : scan.count ≡ isolated start.records
  counted = sym found.scan ∙ found.isolated

  same_unbegun : scan_new ≡ scan → IsSame start z
  same_unbegun same = alone_unbegun start z at_rest keeps (sym counted_new ∙ ap (λ (s : ScanSeat). s.count) same ∙ counted)

  round_by_hand : (after : Audit) (r : Round) → IsAudited z scan_new ends_new after → StopsAlone start scan_new.count r.stopped → (IsAtRest start → ends_new.back ≡ ends.back) → IsRound scan scan_new ends ends_new r → IsByHand start z r
  round_by_hand after r last stops backs round =
      let started = round.count in
      let stop = stops at_rest in
      let kept = backs at_rest in
      let back = round.back in
      let none_back = sym last.back ∙ last.ends_back ∙ kept ∙ sym found.ends_back ∙ found.back in
      let same = alone_exact start z at_rest law keeps (sym counted_new ∙ stop.count_is) last.none_out none_back in
      let more : 0 < r.count → isolated start.records < isolated z.records = λ some. omega (arith, some, started, counted, counted_new) in
      record {
        same = same;
        fingers = λ some. fingers_by_hand start z at_rest law keeps (more some) (sym counted_new ∙ stop.count_is) same;
        quiet = λ some. quiet at_rest (more some) none_back;
        count = ap (λ n. n + r.count) (sym counted) ∙ round.count ∙ counted_new ∙ sym (isolated_same (by_hand start) z same);
        none_back = omega (arith, back, kept);
        stopped = stop.stop_is;
      }

  result_by_hand : (settled : Result Settlement RoundError) (after : Result Audit ZoneError) → IfOk after (IsAudited z scan_new ends_new)
      → IfOk (answer_between before settled after) (λ r. StopsAlone start scan_new.count r.stopped) → OnOk (answer_between before settled after) (IsAtRest start → ends_new.back ≡ ends.back)
      → IfOk (answer_between before settled after) (IsRound scan scan_new ends ends_new) → IfOk (answer_between before settled after) (IsByHand start z)
  result_by_hand (Err error) after last stops backs round = tt
  result_by_hand (Ok s) (Err error) last stops backs round = tt
  result_by_hand (Ok s) (Ok after) last stops backs round = round_by_hand after (round_of before after s) last stops backs round

  pub comes_by_hand : (copiers : ℕ) (settled : Result Settlement RoundError) (after : Result Audit ZoneError) → ends.parts ≡ 64 → IfOk after (IsAudited z scan_new ends_new)
      → (64 ≤ ends_new.parts → ends_new.moved + ends_new.back ≤ scan_new.count) → IsRoundRun (StopsAlone start) (IsAtRest start) None copiers scan scan_new ends ends_new settled
      → IsRoundByHand copiers start z scan scan_new ends ends_new (answer_between before settled after)
  comes_by_hand copiers settled after whole last few ran =
      let all = answered scan scan_new ends ends_new before (counted_by start scan ends before found) whole ran.counts (StopsAlone start) (IsAtRest start) None copiers settled after ran (if_counted_by z scan_new ends_new after last) few in
      let stops = if_unlimited (StopsAlone start) scan_new.count (answer_between before settled after) all.stops in
      record {
        answered = all;
        unlimited = stops.1;
        by_hand = result_by_hand settled after last stops.0 all.none_back all.round;
        unbegun = λ none. same_unbegun (all.early.same none).0;
      }

-- the clauses

pub if_ok : {P Q : Round → Type 0} → ((r : Round) → P r → Q r) → (result : Result Round RoundError) → IfOk result P → IfOk result Q
if_ok says (Ok r) is = says r is
if_ok says (Err error) is = tt

met_for : (refusal : Option ZoneError) → stop_for refusal ≡ stop.Met → refusal ≡ None
met_for None e = refl
met_for (Some error) e = cc

module _ (start z : ZoneState) where
  pub if_same : (result : Result Round RoundError) → IfOk result (IsByHand start z) → OnOk result (IsSame (by_hand start) z)
  if_same (Ok r) is = is.same
  if_same (Err error) is = tt

  pub if_packed : IsValidZone start → (result : Result Round RoundError) → IfOk result (IsByHand start z) → IfOk result (λ r. r.stopped ≡ stop.Met → is_calm start ≡ true → IsPacked z)
  if_packed law = if_ok (λ r is met calm. packed_exact start z law calm (met_for (isolate_refusal (all_isolated start)) (sym is.stopped ∙ met)) is.same)

-- what is known of a zone and its seats is known of the same
pub known_on : (P : ZoneState → ScanSeat → EndSeat → Type 0) (z z_new : ZoneState) (scan scan_new : ScanSeat) (ends ends_new : EndSeat) → z_new ≡ z → scan_new ≡ scan → ends_new ≡ ends → P z scan ends → P z_new scan_new ends_new
known_on P z z_new scan scan_new ends ends_new e f h p = subst (λ w. P w scan_new ends_new) (sym e) (subst (λ s. P z s ends_new) (sym f) (subst (λ s. P z scan s) (sym h) p))
