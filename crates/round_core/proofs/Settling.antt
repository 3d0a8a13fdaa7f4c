-- What was settled of a round between its audits, and the round that is answered.
use Rattle.std.proofs.Common.{◌≡◌, ◌+◌, ◌-◌, ◌≤◌, ◌∙◌, ◌⊎◌, ⊎_elim, inl, inr, ℕ, ap, sym, subst, refl, arith, Option, Some, IfSome, OnSome, map, length}
use Rattle.std.specs.Prelude.{Result, Ok, Err, None, IfOk, IfErr, OnOk}
use Rattle.std.specs.Result.{result_err}
use Rattle.state_core.specs.declared.error.ZoneError.{ZoneError}
use Rattle.state_core.specs.declared.information.Audit.{Audit}
use Rattle.state_core.specs.ZoneState.{ZoneState}
use Rattle.zone_core.specs.Seats.{ScanSeat, EndSeat, IsAudited}
use Rattle.round_core.specs.Counts.{AreCounted, CountsNoLess, CountsOn}
use Rattle.round_core.specs.Rounds.{AreShared, IsRound, IsRefusedEarly, IsWant, answer_at}
use Rattle.round_core.specs.Runs.{IsRunOver}
use Rattle.round_core.specs.Scanning.{IsAllowed, limit_at}
use Rattle.round_core.specs.Settling.{IsAnswered, IsRoundRun, IsSettled, answer_between, round_of}
use Rattle.round_core.specs.declared.compacting.Settlement.{Settlement}
use Rattle.round_core.specs.declared.crew.RoundRun.{RoundRun}
use Rattle.round_core.specs.declared.error.RoundError.{RoundError}
use Rattle.round_core.specs.declared.error.RoundError.TheVariants.{Memory, NoWorker, Broken, Stranger}
use Rattle.round_core.specs.declared.round.Round.{Round}
use Rattle.round_core.specs.declared.round.Stop.{Stop}
use Rattle.round_core.proofs.Early.{begun}

-- an audit that passed counts what the seats count
pub counted_by : (z : ZoneState) (scan : ScanSeat) (ends : EndSeat) (audit : Audit) → IsAudited z scan ends audit → AreCounted scan ends audit
counted_by z scan ends audit is = (is.scan, is.ends_moved, is.ends_back, is.sum)

pub if_counted_by : (z : ZoneState) (scan : ScanSeat) (ends : EndSeat) (result : Result Audit ZoneError) → IfOk result (IsAudited z scan ends) → IfOk result (AreCounted scan ends)
if_counted_by z scan ends (Ok audit) is = counted_by z scan ends audit is
if_counted_by z scan ends (Err error) is = tt

not_broken : (error : RoundError) → IsWant error → ◌≡◌ {A = Result Round RoundError} (Err error) (Err Broken) → ⊥
not_broken Memory want e = cc
not_broken NoWorker want e = cc
not_broken Broken want e = want
not_broken (Stranger serial) want e = want

seat_same : (e f : EndSeat) → f.parts ≡ e.parts → f.moved ≡ e.moved → f.back ≡ e.back → f ≡ e
seat_same e f parts moved back =
    subst (λ n. f ≡ record { parts = n; moved = e.moved; back = e.back }) parts
    (subst (λ n. f ≡ record { parts = f.parts; moved = n; back = e.back }) moved (subst (λ n. f ≡ record { parts = f.parts; moved = f.moved; back = n }) back refl))

module _ (scan scan_new : ScanSeat) (ends ends_new : EndSeat) (before : Audit) (counted : AreCounted scan ends before) (whole : ends.parts ≡ 64) (on : CountsOn ends ends_new) where
  sum : ends.moved + ends.back ≡ scan.count
  sum = omega (arith, counted)

  -- no audit after the round finds fewer pages
  pub no_less : (after : Result Audit ZoneError) → IfOk after (AreCounted scan_new ends_new) → IfOk after (CountsNoLess before)
  no_less (Ok after) new = (omega (arith, counted, new, on), omega (arith, counted, new, on), omega (arith, counted, new, on))
  no_less (Err error) new = tt

  -- where a round isn't begun no move has ended
  given_up : (error : RoundError) → (64 ≤ ends_new.parts → ends_new.moved + ends_new.back ≤ scan_new.count)
      → (IsWant error × (scan_new ≡ scan)) ⊎ ((IsWant error → ⊥) × (scan_new.rounds ≡ scan.rounds + 1)) → IsRefusedEarly scan scan_new ends ends_new (Err error)
  given_up error few (inr late) = begun scan scan_new ends ends_new (Err error) late.1 whole sum late.0
  given_up error few (inl (want, same)) =
      let count = ap (λ (s : ScanSeat). s.count) same in
      let all = few (omega (arith, on, whole)) in
      record {
        broken = (λ h. absurd (not_broken error want h.0), λ broken. ⊎_elim (λ missing. absurd (omega (arith, missing, whole))) (λ differs. absurd (differs sum)) broken);
        want = λ w. ap (λ (s : ScanSeat). s.rounds) same;
        same = λ r. (same, seat_same ends ends_new on.0 (omega (arith, on, sum, all, count)) (omega (arith, on, sum, all, count)));
      }

  module _ (stops_at : ℕ → Stop → Type 0) (unpinned : Type 0) (most : Option ℕ) (copiers : ℕ) where
    module _ (ran : RoundRun) (run : IsRunOver stops_at unpinned most copiers scan scan_new ends ends_new ran) (s : Settlement) (settled : IsSettled ran s) where
      -- what is so where the scanner came to an end
      at_end : (P : Stop → Type 0) → IfSome ran.stop P → P s.stopped
      at_end P is = subst (λ (o : Option Stop). IfSome o P) settled.stopped is

      is_round : (after : Audit) → AreCounted scan_new ends_new after → IsRound scan scan_new ends ends_new (round_of before after s)
      is_round after new =
          let base = settled.base in
          let first = run.has_run.base in
          let all = at_end (λ _. scan_new.count ≡ ran.giver.base + length ran.giver.given) run.has_run.count in
          record {
            base = base ∙ first;
            count = omega (arith, counted, new, first, all);
            whole = on.0 ∙ whole;
            settled = omega (arith, new);
            moved = omega (arith, counted, new, on);
            back = omega (arith, counted, new, on);
            sum = omega (arith, counted, new, on);
            shared = subst (AreShared (map (λ v. v.items) s.by_copier.items) s.base) (omega (arith, counted, new, first, all)) settled.shared;
            rounds = run.rounds;
            stopped = at_end (λ stop. scan_new.last ≡ Some (answer_at stop)) run.has_run.stopped;
          }

    pub answered : (settled : Result Settlement RoundError) (after : Result Audit ZoneError) → IsRoundRun stops_at unpinned most copiers scan scan_new ends ends_new settled
        → IfOk after (AreCounted scan_new ends_new) → (64 ≤ ends_new.parts → ends_new.moved + ends_new.back ≤ scan_new.count)
        → IsAnswered stops_at unpinned most copiers scan scan_new ends ends_new (answer_between before settled after)
    answered (Err error) after ran new few = record { stops = tt; none_back = tt; lists = tt; round = tt; early = given_up error few ran.given_up }
    answered (Ok s) (Err error) ran new few = record {
      stops = tt;
      none_back = tt;
      lists = tt;
      round = tt;
      early = begun scan scan_new ends ends_new (Err Broken) ran.settled.1.rounds whole sum (λ want. want);
    }
    answered (Ok s) (Ok after) ran new few =
        let run = ran.settled.1 in
        let settled = ran.settled.2 in
        record {
          stops = at_end ran.settled.0 run s settled (IsAllowed stops_at (limit_at scan.count most) scan_new.count) run.stops;
          none_back = subst (λ (o : Option Stop). OnSome o (unpinned → ends_new.back ≡ ends.back)) settled.stopped run.back;
          lists = settled.lists ∙ run.lists;
          round = is_round ran.settled.0 run s settled after new;
          early = begun scan scan_new ends ends_new (Ok (round_of before after s)) run.rounds whole sum tt;
        }

-- a round that ran comes to what was settled of it
pub settled_run : (stops_at : ℕ → Stop → Type 0) (unpinned : Type 0) (most : Option ℕ) (copiers : ℕ) (scan scan_new : ScanSeat) (ends ends_new : EndSeat) (ran : RoundRun) (result : Result Settlement RoundError)
    → IsRunOver stops_at unpinned most copiers scan scan_new ends ends_new ran → CountsOn ends ends_new → IfOk result (IsSettled ran) → IfErr result (λ error. IsWant error → ⊥)
    → IsRoundRun stops_at unpinned most copiers scan scan_new ends ends_new result
settled_run stops_at unpinned most copiers scan scan_new ends ends_new ran (Err error) run on settled late = record { settled = tt; given_up = inr (late, run.rounds); counts = on }
settled_run stops_at unpinned most copiers scan scan_new ends ends_new ran (Ok s) run on settled late = record { settled = (ran, run, settled); given_up = tt; counts = on }

-- what is known of the seats is known of the same
pub on_seats : (P : ScanSeat → EndSeat → Type 0) (scan scan_new : ScanSeat) (ends ends_new : EndSeat) → (scan_new ≡ scan) × (ends_new ≡ ends) → P scan ends → P scan_new ends_new
on_seats P scan scan_new ends ends_new same p = subst (λ s. P s ends_new) (sym same.0) (subst (λ e. P scan e) (sym same.1) p)

-- where the answer is Ok, the audit after the round passed
pub passed : (before : Audit) (settled : Result Settlement RoundError) (after : Result Audit ZoneError) (refusal : Option ZoneError) → result_err after ≡ refusal → OnOk (answer_between before settled after) (refusal ≡ None)
passed before (Err error) after refusal is = tt
passed before (Ok settled) (Err error) refusal is = tt
passed before (Ok settled) (Ok after) refusal is = sym is
