-- What a round comes to between its audits, and how it is answered.
use Rattle.std.specs.Prelude.{◌≡◌, ◌+◌, ◌-◌, ◌⊎◌, ℕ, map, Option, Some, Result, Ok, Err, IfOk, IfErr, OnOk, length, vec_len}
use Rattle.state_core.specs.declared.error.ZoneError.{ZoneError}
use Rattle.state_core.specs.declared.information.Audit.{Audit}
use Rattle.zone_core.specs.Seats.{ScanSeat, EndSeat}
use Rattle.round_core.specs.Counts.{CountsOn}
use Rattle.round_core.specs.Rounds.{AreShared, IsRound, IsRefusedEarly, IsWant}
use Rattle.round_core.specs.Runs.{IsRunOver}
use Rattle.round_core.specs.Scanning.{IsAllowed, limit_at}
use Rattle.round_core.specs.declared.compacting.Settlement.{Settlement}
use Rattle.round_core.specs.declared.crew.RoundRun.{RoundRun}
use Rattle.round_core.specs.declared.error.RoundError.{RoundError}
use Rattle.round_core.specs.declared.error.RoundError.TheVariants.{Broken}
use Rattle.round_core.specs.declared.round.Round.{Round}
use Rattle.round_core.specs.declared.round.Stop.{Stop}

-- the round that was settled so: the audits before and after it count what it did
abbrev pub round_of : Audit → Audit → Settlement → Round
round_of before after settled = record {
  base = settled.base;
  count = after.isolated - before.isolated;
  moved = after.moved - before.moved;
  back = after.back - before.back;
  by_copier = settled.by_copier;
  stopped = settled.stopped;
}

-- its answer
abbrev pub answer_between : Audit → Result Settlement RoundError → Result Audit ZoneError → Result Round RoundError
answer_between before (Err error) after = Err error
answer_between before (Ok settled) (Err error) = Err Broken
answer_between before (Ok settled) (Ok after) = Ok (round_of before after settled)

-- what was settled of a round that ran so
pub record IsSettled (ran : RoundRun) (settled : Settlement) : Type 0 where
  pub base : settled.base ≡ ran.giver.base
  pub shared : AreShared (map (λ v. v.items) settled.by_copier.items) settled.base (length ran.giver.given)
  pub stopped : ran.stop ≡ Some settled.stopped
  pub lists : vec_len settled.by_copier ≡ vec_len ran.joined.lists

-- what a round came to between its audits, by the seats before and after it: with so many copiers, where the scanner may stop as told, and at
-- the limit if there is one
pub record IsRoundRun (stops_at : ℕ → Stop → Type 0) (unpinned : Type 0) (most : Option ℕ) (copiers : ℕ) (scan scan_new : ScanSeat) (ends ends_new : EndSeat) (result : Result Settlement RoundError) : Type 0 where
  pub settled : IfOk result (λ s. (ran : RoundRun) × IsRunOver stops_at unpinned most copiers scan scan_new ends ends_new ran × IsSettled ran s)
  -- where memory or a thread was wanting the scan seat is as it was, else the round was begun
  pub given_up : IfErr result (λ error. (IsWant error × (scan_new ≡ scan)) ⊎ ((IsWant error → ⊥) × (scan_new.rounds ≡ scan.rounds + 1)))
  pub counts : CountsOn ends ends_new

-- how a round was answered, by the seats before and after it
pub record IsAnswered (stops_at : ℕ → Stop → Type 0) (unpinned : Type 0) (most : Option ℕ) (copiers : ℕ) (scan scan_new : ScanSeat) (ends ends_new : EndSeat) (result : Result Round RoundError) : Type 0 where
  pub stops : IfOk result (λ r. IsAllowed stops_at (limit_at scan.count most) scan_new.count r.stopped)
  pub none_back : OnOk result (unpinned → ends_new.back ≡ ends.back)
  pub lists : IfOk result (λ r. vec_len r.by_copier ≡ copiers)
  pub round : IfOk result (IsRound scan scan_new ends ends_new)
  pub early : IsRefusedEarly scan scan_new ends ends_new result
