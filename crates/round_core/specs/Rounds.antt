-- What a round does, and when it is refused.
use Rattle.std.specs.Prelude.{◌≡◌, ◌≢◌, ℕ, ◌+◌, ◌<◌, List, map, All, ⊤, Option, Some, None, Result, Err, IfOk, IfErr, ◌↔◌, ◌⊎◌}
use Rattle.std.specs.List.{flat_map, range_with_len}
use Rattle.std.specs.List.Sorted.{IsPermutation, IsStrictlyIncreasing}
use Rattle.zone_core.specs.ByHand.{all_isolated}
use Rattle.state_core.specs.declared.error.ZoneError.{ZoneError}
use Rattle.state_core.specs.Isolating.{isolate_refusal}
use Rattle.state_core.specs.ZoneState.{ZoneState}
use Rattle.zone_core.specs.Seats.{ScanSeat, EndSeat}
use Rattle.zone_core.specs.declared.seats.Answered.{Answered}
use Rattle.zone_core.specs.declared.seats.Answered.TheVariants as answered
use Rattle.round_core.specs.declared.error.RoundError.{RoundError}
use Rattle.round_core.specs.declared.error.RoundError.TheVariants.{Memory, NoWorker, Broken, Stranger}
use Rattle.round_core.specs.declared.round.Round.{Round}
use Rattle.round_core.specs.declared.round.Stop.{Stop}
use Rattle.round_core.specs.declared.round.Stop.TheVariants as stop

-- the answer of `isolate_next` after which the scanner stops for this reason
abbrev pub answer_at : Stop → Answered
answer_at stop.Met = answered.Met
answer_at stop.JournalFull = answered.JournalFull
answer_at stop.Most = answered.Page

-- why the scanner stops, by what the journal refuses to isolate a page as
abbrev pub stop_for : Option ZoneError → Stop
stop_for None = stop.Met
stop_for (Some error) = stop.JournalFull

-- why the scanner of a round by hand stops
abbrev pub stop_by_hand : ZoneState → Stop
stop_by_hand z = stop_for (isolate_refusal (all_isolated z))

-- the lists of a round's copiers
abbrev pub lists_of : Round → List (List ℕ)
lists_of r = map (λ v. v.items) r.by_copier.items

-- the lists are strictly rising, and together they have exactly base, base + 1, .., `count` numbers, each once
pub record AreShared (lists : List (List ℕ)) (base count : ℕ) : Type 0 where
  pub rising : All IsStrictlyIncreasing lists
  pub each_once : IsPermutation (flat_map (λ list. list) lists) (range_with_len base count)

-- what a round did that was answered Ok, by the seats before and after it
pub record IsRound (scan scan_new : ScanSeat) (ends ends_new : EndSeat) (r : Round) : Type 0 where
  -- its base is the scan seat's count at entry, and its count is what that count grew by
  pub base : r.base ≡ scan.count
  pub count : scan.count + r.count ≡ scan_new.count
  -- the end seat has its 64 parts, and its counts add up to the scan seat's
  pub whole : ends_new.parts ≡ 64
  pub settled : ends_new.moved + ends_new.back ≡ scan_new.count
  -- the pages moved and put back are what the end seat's two counts grew by, and together they are the round's count
  pub moved : ends.moved + r.moved ≡ ends_new.moved
  pub back : ends.back + r.back ≡ ends_new.back
  pub sum : r.moved + r.back ≡ r.count
  -- the copiers' lists are strictly rising, and together they have exactly base, base + 1, .., each once
  pub shared : AreShared (lists_of r) r.base r.count
  -- the scan seat counts one round more, and the round stopped at its last answer
  pub rounds : scan_new.rounds ≡ scan.rounds + 1
  pub stopped : scan_new.last ≡ Some (answer_at r.stopped)

-- a round has no limit at which it stops
abbrev pub IsUnlimited : Result Round RoundError → Type 0
IsUnlimited result = IfOk result (λ r. r.stopped ≢ stop.Most)

-- a part of the end seat is missing, or its counts don't add up to the scan seat's
abbrev pub IsBroken : ScanSeat → EndSeat → Type 0
IsBroken scan ends = (ends.parts < 64) ⊎ (ends.moved + ends.back ≢ scan.count)

-- whether memory or a thread was wanting
abbrev pub IsWant : RoundError → Type 0
IsWant Memory = ⊤
IsWant NoWorker = ⊤
IsWant Broken = ⊥
IsWant (Stranger serial) = ⊥

-- when a round isn't begun, by the seats before and after it
pub record IsRefusedEarly (scan scan_new : ScanSeat) (ends ends_new : EndSeat) (result : Result Round RoundError) : Type 0 where
  -- a round is refused as Broken and isn't begun exactly where a part of the end seat is missing or its counts don't add
  -- up to the scan seat's
  pub broken : ((result ≡ Err Broken) × (scan_new.rounds ≡ scan.rounds)) ↔ IsBroken scan ends
  -- where memory or a thread is wanting, no round is begun
  pub want : IfErr result (λ error. IsWant error → scan_new.rounds ≡ scan.rounds)
  -- where no round is begun, the seats and their parts are as before
  pub same : scan_new.rounds ≡ scan.rounds → (scan_new ≡ scan) × (ends_new ≡ ends)
