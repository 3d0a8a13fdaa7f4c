-- Work on a zone that nobody else has comes to what one thread comes to.
use Rattle.std.proofs.Common.{◌≡◌, false, Option, Some, None, ap, subst, sym, ◌∙◌}
use Rattle.std.specs.Prelude.{IfOk, IfSome, OnOk, Result, Ok, Err, is_err}
use Rattle.std.specs.Option.{ok_or}
use Rattle.std.specs.Result.{result_and}
use Rattle.state_core.specs.declared.information.Audit.{Audit}
use Rattle.state_core.specs.Valid.{IsValidZone}
use Rattle.state_core.specs.ZoneState.{ZoneState, frame_count}
use Rattle.worker_threads.specs.Alone.{KeepsRound, StopsAlone, stop_by_hand, unlent}
use Rattle.worker_threads.specs.AloneLaws.{first_exact, valid_unlent}
use Rattle.worker_threads.specs.Emptied.{KeepsEmptied, StopsEmptied, WasEmptied}
use Rattle.worker_threads.specs.EmptyingLaws.{emptying_exact}
use Rattle.worker_threads.specs.Runs.{AreBlocks, Runs}
use Rattle.worker_threads.specs.Working.{IsOnlyRound}
use Rattle.worker_threads.specs.declared.error.WorkError.{WorkError}
use Rattle.worker_threads.specs.declared.error.WorkError.TheVariants.{Broken}
use Rattle.worker_threads.specs.declared.round.Round.{Round}
use Rattle.zone_core.specs.Alone.{IsAtRest}
use Rattle.zone_core.specs.ByHand.{by_hand}
use Rattle.zone_core.specs.Counted.{IsCounted}
use Rattle.zone_core.specs.Outcome.{IsSame}

-- an audit that wasn't refused found no page moving
pub at_rest : {E : Type 0} (z : ZoneState) (audit : Result Audit E) → IsValidZone z → IfOk audit (IsCounted z) → is_err audit ≡ false → IsAtRest z
at_rest z (Ok audit) law counted passed = record { valid = law; none_out = counted.none_out }
at_rest z (Err error) law counted passed = cc

-- what is true of the only round is so where the work is done
pub if_done : (P : Round → Type 0) (done : Result Round WorkError) (round : Option Round) → IfSome round P → IfOk (result_and done (ok_or round Broken)) P
if_done P (Err error) round only = tt
if_done P (Ok done) None only = tt
if_done P (Ok done) (Some round) only = only

pub on_done : (P : Type 0) (done : Result Round WorkError) → P → OnOk done P
on_done P (Err error) holds = tt
on_done P (Ok round) holds = holds

module _ (start z : ZoneState) (done : Result Round WorkError) (law : OnOk done (IsValidZone z)) (rest : OnOk done (IsAtRest start)) where
  unlent_rest : IsAtRest start → IsAtRest (unlent start)
  unlent_rest rest = record { valid = valid_unlent start rest.valid; none_out = rest.none_out }

  -- a round
  abbrev OnlyRound : Round → Type 0
  OnlyRound = IsOnlyRound (λ work rounds w. KeepsRound (unlent start) work rounds (unlent w)) (λ work. StopsAlone (unlent start)) z

  first : IsValidZone z → IsAtRest start → (round : Round) → OnlyRound round → IsSame (by_hand (unlent start)) (unlent z) × (round.stopped ≡ Some (stop_by_hand (unlent start)))
  first law rest round only =
      let exact = first_exact (unlent start) (unlent z) only.stop (valid_unlent z law) (unlent_rest rest) only.fact.keeps only.stops only.none_out in
      (exact.0, only.stopped ∙ ap (λ reason. Some reason) exact.1)

  pub exact_round : IfOk done OnlyRound → OnOk done (IsSame (by_hand (unlent start)) (unlent z))
  exact_round = by done law rest where
    by : (done : Result Round WorkError) → OnOk done (IsValidZone z) → OnOk done (IsAtRest start) → IfOk done OnlyRound → OnOk done (IsSame (by_hand (unlent start)) (unlent z))
    by (Err error) law rest only = tt
    by (Ok round) law rest only = (first law rest round only).0

  pub stopped_round : IfOk done OnlyRound → IfOk done (λ round. round.stopped ≡ Some (stop_by_hand (unlent start)))
  stopped_round = by done law rest where
    by : (done : Result Round WorkError) → OnOk done (IsValidZone z) → OnOk done (IsAtRest start) → IfOk done OnlyRound → IfOk done (λ round. round.stopped ≡ Some (stop_by_hand (unlent start)))
    by (Err error) law rest only = tt
    by (Ok round) law rest only = (first law rest round only).1

  -- the emptying of runs
  module _ (runs : Runs) (blocks : AreBlocks (frame_count start) runs) where
    abbrev OnlyEmptying : Round → Type 0
    OnlyEmptying = IsOnlyRound (λ work rounds w. KeepsEmptied (unlent start) runs work rounds (unlent w)) (StopsEmptied (unlent start) runs) z

    pub exact_emptying : IfOk done OnlyEmptying → IfOk done (λ round. WasEmptied (unlent start) runs (unlent z) round.stopped)
    exact_emptying = by done law rest where
      by : (done : Result Round WorkError) → OnOk done (IsValidZone z) → OnOk done (IsAtRest start) → IfOk done OnlyEmptying → IfOk done (λ round. WasEmptied (unlent start) runs (unlent z) round.stopped)
      by (Err error) law rest only = tt
      by (Ok round) law rest only = subst (WasEmptied (unlent start) runs (unlent z)) (sym only.stopped) (emptying_exact (unlent start) runs only.work z only.stop law (unlent_rest rest) blocks only.fact only.stops only.none_out)
