-- What a collector did, and why it stopped.
use Rattle.std.specs.Prelude.{◌≡◌, ◌<◌, ◌≤◌, ◌⊎◌, ℕ, List, [], ◌∷◌, All, length, Option, Some, None, Err}
use Rattle.round_core.specs.Rounds.{IsRound, IsRefusedEarly}
use Rattle.round_core.specs.declared.round.Round.{Round}
use Rattle.round_core.specs.declared.round.Stop.TheVariants as round
use Rattle.round_core.specs.declared.round.Stop.{Stop as RoundStop}
use Rattle.state_core.specs.declared.error.ZoneError.TheVariants as zone
use Rattle.zone_core.specs.Seats.{ScanSeat, EndSeat}
use Rattle.huge_core.specs.Huge.{Huge, IsHandedOut, IsRefused}
use Rattle.huge_core.specs.declared.collector.Collector.{Collector}
use Rattle.huge_core.specs.declared.report.Report.{Report}
use Rattle.huge_core.specs.declared.report.Stop.{Stop}
use Rattle.huge_core.specs.declared.report.Stop.TheVariants.{Enough, NoBlock, Rounds, JournalFull, Refused}

-- there is a block of this order, and a zone handed it out
abbrev pub IsGot : ℕ → Option Huge → Type 0
IsGot order None = ⊥
IsGot order (Some block) = (block.order ≡ order) × IsHandedOut block

-- these rounds, the latest first, were answered Ok one after the other, and took the two seats from one state to another
abbrev pub AreRounds : List Round → ScanSeat → ScanSeat → EndSeat → EndSeat → Type 0
AreRounds [] scan scan_new ends ends_new = (scan_new ≡ scan) × (ends_new ≡ ends)
AreRounds (latest ∷ earlier) scan scan_new ends ends_new =
    (scan_between : ScanSeat) × (ends_between : EndSeat)
    × AreRounds earlier scan scan_between ends ends_between
    × IsRound scan_between scan_new ends_between ends_new latest

-- each of these rounds moved a page
abbrev pub HaveMoved : List Round → Type 0
HaveMoved rounds = All (λ (r : Round). 0 < r.moved) rounds

-- before each of these rounds a zone had refused a block of this order, since none was free
abbrev pub WereNeeded : ℕ → List Round → Type 0
WereNeeded order rounds = All (λ (r : Round). IsRefused order zone.NoBlock) rounds

-- the latest of these rounds moved no page and stopped for this reason, and each before it moved a page
abbrev pub HaveIdled : RoundStop → List Round → Type 0
HaveIdled stop [] = ⊥
HaveIdled stop (latest ∷ earlier) = (latest.moved ≡ 0) × (latest.stopped ≡ stop) × HaveMoved earlier

-- why a collector stopped after these rounds
abbrev pub IsReason : Collector → List Round → Stop → Type 0
IsReason c rounds Enough = HaveMoved rounds
IsReason c rounds NoBlock = HaveIdled round.Met rounds
IsReason c rounds Rounds = HaveMoved rounds × (length rounds ≡ c.rounds) × IsRefused c.order zone.NoBlock
IsReason c rounds JournalFull = HaveIdled round.JournalFull rounds ⊎ (HaveMoved rounds × IsRefused c.order zone.JournalFull)
IsReason c rounds (Refused error) = HaveMoved rounds × IsRefused c.order zone.NoBlock

-- the seats after a collector stopped: as its rounds left them, or as a round that was refused left them
abbrev pub AreLeft : Stop → ScanSeat → ScanSeat → EndSeat → EndSeat → Type 0
AreLeft (Refused error) scan scan_new ends ends_new = IsRefusedEarly scan scan_new ends ends_new (Err error)
AreLeft stop scan scan_new ends ends_new = (scan_new ≡ scan) × (ends_new ≡ ends)

-- the rounds that a collector ran, by the seats before and after its call
pub record HasRun (c : Collector) (scan scan_new : ScanSeat) (ends ends_new : EndSeat) (report : Report) : Type 0 where
  -- the rounds that were answered Ok, the latest first: the report tells how many, and they are no more than the collector may run
  pub rounds : List Round
  pub count : report.rounds ≡ length rounds
  pub most : report.rounds ≤ c.rounds
  pub needed : WereNeeded c.order rounds
  -- the seats after these rounds
  pub scan_after : ScanSeat
  pub ends_after : EndSeat
  pub ran : AreRounds rounds scan scan_after ends ends_after
  pub left : AreLeft report.stop scan_after scan_new ends_after ends_new
  pub reason : IsReason c rounds report.stop
