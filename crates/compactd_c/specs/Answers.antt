-- The numbers that C gets, and the zone that is left.
use Rattle.std.specs.Prelude.{◌≡◌, ℕ, if◌then◌else◌, Option, Some, None, is_some, Result, OnErr, OnOk}
use Rattle.std.specs.Result.{result_err}
use Rattle.state_core.specs.ErrorNumber.{number_of}
use Rattle.state_core.specs.ZoneState.{ZoneState}
use Rattle.state_core.specs.declared.error.ZoneError.{ZoneError}

-- 0, or the number of the refusal
abbrev pub number_for : Option ZoneError → ℕ
number_for None = 0
number_for (Some error) = number_of error

-- the same of a pool, which answers 51 where it is closed
abbrev pub answer_of : Option ZoneState → (ZoneState → Option ZoneError) → ℕ
answer_of None refusal = 51
answer_of (Some z) refusal = number_for (refusal z)

-- the zone then: as it was where the call is refused, and else after its step
abbrev pub left : Option ZoneState → (ZoneState → Option ZoneError) → (ZoneState → ZoneState) → Option ZoneState
left None refusal step = None
left (Some z) refusal step = Some (if is_some (refusal z) then z else step z)

-- a call on a pool was refused for this reason, or its zone made this step
pub record IsCall (refusal : ZoneState → Option ZoneError) (step : ZoneState → ZoneState) (old new : Option ZoneState) (number : ℕ) : Type 0 where
  pub answer : number ≡ answer_of old refusal
  pub zone : new ≡ left old refusal step

-- what C is told holds of the zone as it was, and where the call is refused it has what it had
pub record IsTold {A : Type 0} (Holds : ZoneState → A → Type 0) (zone : Option ZoneState) (number : ℕ) (before after : A) : Type 0 where
  pub value : (z : ZoneState) → zone ≡ Some z → number ≡ 0 → Holds z after
  pub kept : ¬ (number ≡ 0) → after ≡ before

-- a question to a pool was refused for this reason, or what C is told holds of its zone, which is as it was
pub record IsAsked {A : Type 0} (refusal : ZoneState → Option ZoneError) (Holds : ZoneState → A → Type 0) (old new : Option ZoneState) (number : ℕ) (before after : A) : Type 0 where
  pub answer : number ≡ answer_of old refusal
  pub zone : new ≡ old
  pub told : IsTold Holds old number before after

-- a zone refused a call for this reason, or made this step
pub record IsMade {A : Type 0} (refusal : ZoneState → Option ZoneError) (step : ZoneState → ZoneState) (old new : ZoneState) (result : Result A ZoneError) : Type 0 where
  pub refused : result_err result ≡ refusal old
  pub err : OnErr result (new ≡ old)
  pub ok : OnOk result (new ≡ step old)
