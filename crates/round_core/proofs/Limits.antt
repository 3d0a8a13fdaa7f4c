-- The limit of a round.
use Rattle.std.proofs.Common.{◌≡◌, ◌≢◌, ◌+◌, ◌<◌, ◌≤◌, ◌↔◌, ℕ, arith, ap, sym, subst, refl, ◌∙◌, Option, Some, None, IfSome, IfOk, unwrap_or}
use Rattle.std.specs.Prelude.{Result, Ok, Err}
use Rattle.zone_core.specs.Seats.{ScanSeat, EndSeat}
use Rattle.zone_core.specs.declared.seats.Answered.TheVariants as answered
use Rattle.round_core.specs.Rounds.{IsRound}
use Rattle.round_core.specs.Scanning.{HasMore, HasStopped, IsAllowed, limit_at}
use Rattle.round_core.specs.declared.error.RoundError.{RoundError}
use Rattle.round_core.specs.declared.round.Round.{Round}
use Rattle.round_core.specs.declared.round.Stop.{Stop}
use Rattle.round_core.specs.declared.round.Stop.TheVariants as stop

below : (count : ℕ) (left : Option ℕ) → HasMore left → IfSome (limit_at count left) (λ end. count < end)
below count None more = tt
below count (Some n) more = omega (arith, more)

module _ (stops_at : ℕ → Stop → Type 0) where
  -- a scanner whose round may isolate more may stop as one without a limit
  allowed_before : (count : ℕ) (left : Option ℕ) (reason : Stop) → HasMore left → IsAllowed stops_at None count reason → IsAllowed stops_at (limit_at count left) count reason
  allowed_before count left stop.Met more allowed = (below count left more, allowed.1)
  allowed_before count left stop.JournalFull more allowed = (below count left more, allowed.1)
  allowed_before count left stop.Most more allowed = cc

  pub stopped_before : (limit left : Option ℕ) (scan : ScanSeat) (reason : Stop) → limit_at scan.count left ≡ limit → HasMore left → HasStopped stops_at None scan reason → HasStopped stops_at limit scan reason
  stopped_before limit left scan reason same more stopped = record {
    answered = stopped.answered;
    allowed = subst (λ (l : Option ℕ). IsAllowed stops_at l scan.count reason) same (allowed_before scan.count left reason more stopped.allowed);
  }

  -- one whose round may isolate no more stops at the limit
  pub stopped_at_limit : (limit left : Option ℕ) (scan : ScanSeat) → limit_at scan.count left ≡ limit → left ≡ Some 0 → scan.last ≡ Some answered.Page → HasStopped stops_at limit scan stop.Most
  stopped_at_limit limit left scan same none page =
      let all : scan.count + 0 ≡ scan.count = omega arith in
      record { answered = page; allowed = sym same ∙ ap (limit_at scan.count) none ∙ ap (λ (n : ℕ). Some n) all }

  -- why a round without a limit stops

  stops_unlimited : (count : ℕ) (reason : Stop) → IsAllowed stops_at None count reason → (stops_at count reason) × (reason ≢ stop.Most)
  stops_unlimited count stop.Met allowed = (allowed.1, λ e. cc)
  stops_unlimited count stop.JournalFull allowed = (allowed.1, λ e. cc)
  stops_unlimited count stop.Most allowed = cc

  pub if_unlimited : (count : ℕ) (result : Result Round RoundError) → IfOk result (λ r. IsAllowed stops_at None count r.stopped)
      → IfOk result (λ r. stops_at count r.stopped) × IfOk result (λ r. r.stopped ≢ stop.Most)
  if_unlimited count (Ok r) allowed = stops_unlimited count r.stopped allowed
  if_unlimited count (Err error) allowed = (tt, tt)

  -- and one with a limit

  stops_limited : (start most now count : ℕ) (reason : Stop) → start + count ≡ now → IsAllowed stops_at (Some (start + most)) now reason
      → (count ≤ most) × ((reason ≡ stop.Most) ↔ (count ≡ most)) × (reason ≢ stop.Most → stops_at now reason)
  stops_limited start most now count stop.Met sum allowed =
      let before = allowed.0 in
      (omega (arith, sum, before), (λ e. cc, λ all. absurd (omega (arith, sum, before, all))), λ other. allowed.1)
  stops_limited start most now count stop.JournalFull sum allowed =
      let before = allowed.0 in
      (omega (arith, sum, before), (λ e. cc, λ all. absurd (omega (arith, sum, before, all))), λ other. allowed.1)
  stops_limited start most now count stop.Most sum allowed =
      let limit : start + most ≡ now = ap (λ (o : Option ℕ). unwrap_or o 0) allowed in
      (omega (arith, sum, limit), (λ e. omega (arith, sum, limit), λ all. refl), λ other. absurd (other refl))

  pub if_limited : (most : ℕ) (scan scan_new : ScanSeat) (ends ends_new : EndSeat) (result : Result Round RoundError)
      → IfOk result (λ r. IsAllowed stops_at (Some (scan.count + most)) scan_new.count r.stopped) → IfOk result (λ r. IsRound scan scan_new ends ends_new r)
      → IfOk result (λ r. r.count ≤ most) × IfOk result (λ r. (r.stopped ≡ stop.Most) ↔ (r.count ≡ most)) × IfOk result (λ r. r.stopped ≢ stop.Most → stops_at scan_new.count r.stopped)
  if_limited most scan scan_new ends ends_new (Ok r) allowed round = stops_limited scan.count most scan_new.count r.count r.stopped round.count allowed
  if_limited most scan scan_new ends ends_new (Err error) allowed round = (tt, tt, tt)
