-- What the lock of a zone keeps during a round of workers, where nobody else has the zone: what its first round comes to.
use Rattle.std.specs.Prelude.{◌≡◌, ℕ, zero, suc, ⊤}
use Rattle.std.specs.FinSet as set
use Rattle.frame_core.specs.Moves.{isolated, put_back}
use Rattle.state_core.specs.Isolating.{isolate_refusal}
use Rattle.state_core.specs.ZoneState.{ZoneState}
use Rattle.worker_threads.specs.Work.{stop_for}
use Rattle.worker_threads.specs.declared.round.Stop.{Stop}
use Rattle.worker_threads.specs.declared.work.Work.{Work}
use Rattle.worker_threads.specs.declared.work.Work.TheVariants.{Compact}
use Rattle.zone_core.specs.Alone.{IsAtRest, IsUnderWay}
use Rattle.zone_core.specs.ByHand.{all_isolated}

-- a zone as it is where it isn't told which pages' words are lent
abbrev pub unlent : ZoneState → ZoneState
unlent z = record z { lent_pages = set.empty }

-- why the scanner of a round by hand stops
abbrev pub stop_by_hand : ZoneState → Stop
stop_by_hand start = stop_for Compact (isolate_refusal (all_isolated start))

-- the first round of a zone is under way, and put no page back
pub record IsFirst (start z : ZoneState) : Type 0 where
  pub under : IsUnderWay start z
  pub back : put_back z.records ≡ put_back start.records

-- it hasn't begun, or it is under way; of later rounds nothing is kept
abbrev pub KeepsFirst : ZoneState → ℕ → ZoneState → Type 0
KeepsFirst start zero z = z ≡ start
KeepsFirst start (suc zero) z = IsFirst start z
KeepsFirst start (suc (suc more)) z = ⊤

-- if no page was moving before the round
abbrev pub KeepsAlone : ZoneState → ℕ → ZoneState → Type 0
KeepsAlone start rounds z = IsAtRest start → KeepsFirst start rounds z

-- rounds are all the work that is done
pub record KeepsRound (start : ZoneState) (work : Work) (rounds : ℕ) (z : ZoneState) : Type 0 where
  pub is_round : work ≡ Compact
  pub keeps : KeepsAlone start rounds z

-- it stops where as many pages were isolated as by hand, and why that one does
pub record IsStopByHand (start : ZoneState) (count : ℕ) (reason : Stop) : Type 0 where
  pub count_is : count ≡ isolated (all_isolated start).records
  pub reason_is : reason ≡ stop_by_hand start

abbrev pub StopsFirst : ZoneState → ℕ → ℕ → Stop → Type 0
StopsFirst start (suc zero) count reason = IsStopByHand start count reason
StopsFirst start _ count reason = ⊤

abbrev pub StopsAlone : ZoneState → ℕ → ℕ → Stop → Type 0
StopsAlone start rounds count reason = IsAtRest start → StopsFirst start rounds count reason
