-- What comes of a call that a client makes.
use Rattle.std.specs.Prelude.{◌≡◌, ℕ, OnOk, OnErr, Result}
use Rattle.std.specs.Result.{result_err}
use Rattle.state_core.specs.declared.call.ZoneCall.{ZoneCall}
use Rattle.state_core.specs.declared.error.ZoneError.{ZoneError}
use Rattle.state_core.specs.Calls.{refusal_of, after}
use Rattle.state_core.specs.Valid.{IsValidZone}
use Rattle.state_core.specs.ZoneState.{ZoneState}
use Rattle.zone_core.specs.ZoneIdentity.{HasIdentity}

-- a zone made a call of a client, or refused it: a call is refused exactly as its row says and then changes nothing, and else it leaves
-- what its row says
pub record IsMade {W : ℕ} {A : Type 0} (call : ZoneCall W) (client : ℕ) (old new : ZoneState) (result : Result A ZoneError) : Type 0 where
  pub refused : result_err result ≡ refusal_of call old
  pub err : OnErr result (new ≡ old)
  pub ok : OnOk result (new ≡ after call client old)
  pub identity : HasIdentity old.number old.blocks new
  pub valid : IsValidZone new
