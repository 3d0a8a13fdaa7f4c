-- A collector between two of its rounds, and where it stops.
use Rattle.std.proofs.Common.{◌≡◌, ◌≢◌, ◌<◌, ◌≤◌, ◌+◌, ℕ, List, [], ◌∷◌, length, refl, inl, arith}
use Rattle.std.proofs.lemmas.List.Elements.{All-nil, All-cons}
use Rattle.round_core.specs.Rounds.{IsRound}
use Rattle.round_core.specs.declared.round.Round.{Round}
use Rattle.round_core.specs.declared.round.Stop.{Stop as RoundStop}
use Rattle.round_core.specs.declared.round.Stop.TheVariants as round
use Rattle.state_core.specs.declared.error.ZoneError.TheVariants as zone
use Rattle.zone_core.specs.Seats.{ScanSeat, EndSeat}
use Rattle.huge_core.specs.declared.collector.Collector.{Collector}
use Rattle.huge_core.specs.declared.report.Report.{Report}
use Rattle.huge_core.specs.declared.report.Stop.TheVariants as stop
use Rattle.huge_core.specs.Huge.{IsRefused}
use Rattle.huge_core.specs.Reserving.{AreRounds, HaveMoved, WereNeeded, IsReason, AreLeft, HasRun}

-- the collector ran `count` rounds so far, each of which was needed and moved a page, and they are no more than it may run
pub record IsRunning (c : Collector) (scan scan_new : ScanSeat) (ends ends_new : EndSeat) (count : ℕ) : Type 0 where
  pub rounds : List Round
  pub count_is : count ≡ length rounds
  pub most : count ≤ c.rounds
  pub needed : WereNeeded c.order rounds
  pub moved : HaveMoved rounds
  pub ran : AreRounds rounds scan scan_new ends ends_new

-- no round was run yet
pub not_begun : (c : Collector) (scan : ScanSeat) (ends : EndSeat) → IsRunning c scan scan ends ends 0
not_begun c scan ends = record {
  rounds = [];
  count_is = refl;
  most = omega arith;
  needed = All-nil (λ (r : Round). IsRefused c.order zone.NoBlock);
  moved = All-nil (λ (r : Round). 0 < r.moved);
  ran = (refl, refl);
}

-- the collector runs a round that moves a page
pub run_on : (c : Collector) (scan scan_between scan_new : ScanSeat) (ends ends_between ends_new : EndSeat) (count : ℕ) (latest : Round)
    → IsRunning c scan scan_between ends ends_between count → (count ≡ c.rounds → ⊥) → IsRefused c.order zone.NoBlock
    → IsRound scan_between scan_new ends_between ends_new latest → (latest.moved ≡ 0 → ⊥)
    → IsRunning c scan scan_new ends ends_new (count + 1)
run_on c scan scan_between scan_new ends ends_between ends_new count latest was left refused round moved =
    let length_was = was.count_is in
    let most_was = was.most in
    record {
      rounds = latest ∷ was.rounds;
      count_is = omega (arith, length_was);
      most = omega (arith, most_was, left);
      needed = All-cons (λ (r : Round). IsRefused c.order zone.NoBlock) latest was.rounds refused was.needed;
      moved = All-cons (λ (r : Round). 0 < r.moved) latest was.rounds (omega (arith, moved)) was.moved;
      ran = (scan_between, ends_between, was.ran, round);
    }

-- the collector stops after rounds that each moved a page
pub stopped : (c : Collector) (scan scan_after scan_new : ScanSeat) (ends ends_after ends_new : EndSeat) (report : Report)
    → IsRunning c scan scan_after ends ends_after report.rounds
    → AreLeft report.stop scan_after scan_new ends_after ends_new
    → ((rounds : List Round) → report.rounds ≡ length rounds → HaveMoved rounds → IsReason c rounds report.stop)
    → HasRun c scan scan_new ends ends_new report
stopped c scan scan_after scan_new ends ends_after ends_new report was left reason = record {
  rounds = was.rounds;
  count = was.count_is;
  most = was.most;
  needed = was.needed;
  scan_after = scan_after;
  ends_after = ends_after;
  ran = was.ran;
  left = left;
  reason = reason was.rounds was.count_is was.moved;
}

-- the collector stops after a round that moved no page
pub idled : (c : Collector) (scan scan_between scan_new : ScanSeat) (ends ends_between ends_new : EndSeat) (report : Report) (count : ℕ) (latest : Round)
    → IsRunning c scan scan_between ends ends_between count → (count ≡ c.rounds → ⊥) → IsRefused c.order zone.NoBlock → report.rounds ≡ count + 1
    → IsRound scan_between scan_new ends_between ends_new latest → latest.moved ≡ 0 → latest.stopped ≢ round.Most
    → (latest.stopped ≡ round.Met → report.stop ≡ stop.NoBlock) → (latest.stopped ≡ round.JournalFull → report.stop ≡ stop.JournalFull)
    → HasRun c scan scan_new ends ends_new report
idled c scan scan_between scan_new ends ends_between ends_new report count latest was left refused more ran idle unlimited met full =
    let length_was = was.count_is in
    let most_was = was.most in
    let why = reason latest.stopped refl unlimited met full in
    record {
      rounds = latest ∷ was.rounds;
      count = omega (arith, more, length_was);
      most = omega (arith, more, most_was, left);
      needed = All-cons (λ (r : Round). IsRefused c.order zone.NoBlock) latest was.rounds refused was.needed;
      scan_after = scan_new;
      ends_after = ends_new;
      ran = (scan_between, ends_between, was.ran, ran);
      left = why.0;
      reason = why.1;
    }
  where
    reason : (at : RoundStop) → latest.stopped ≡ at → at ≢ round.Most → (at ≡ round.Met → report.stop ≡ stop.NoBlock) → (at ≡ round.JournalFull → report.stop ≡ stop.JournalFull)
        → AreLeft report.stop scan_new scan_new ends_new ends_new × IsReason c (latest ∷ was.rounds) report.stop
    reason round.Met is unlimited met full = rw (met refl) ((refl, refl), (idle, is, was.moved))
    reason round.JournalFull is unlimited met full = rw (full refl) ((refl, refl), inl (idle, is, was.moved))
    reason round.Most is unlimited met full = absurd (unlimited refl)
