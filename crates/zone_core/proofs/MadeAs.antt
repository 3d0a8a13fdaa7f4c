-- A call that is made as a value does what its method does.
use Rattle.std.proofs.Common.{◌≡◌, ℕ, ◌∙◌, sym, subst}
use Rattle.std.specs.Prelude.{Result, Ok, Err, OnOk, OnErr}
use Rattle.std.specs.Result.{result_err}
use Rattle.state_core.specs.declared.call.ZoneCall.{ZoneCall}
use Rattle.state_core.specs.declared.error.ZoneError.{ZoneError}
use Rattle.state_core.specs.Calls.{after}
use Rattle.state_core.specs.ZoneState.{ZoneState}
use Rattle.zone_core.specs.Made.{IsMade}

module _ {A B : Type 0} (P : Type 0) where
  on_err : (r : Result A ZoneError) (s : Result B ZoneError) → result_err s ≡ result_err r → OnErr r P → OnErr s P
  on_err (Err e) (Err f) same h = h
  on_err (Ok a) (Err f) same h = absurd (cc)
  on_err r (Ok b) same h = tt

  on_ok : (r : Result A ZoneError) (s : Result B ZoneError) → result_err s ≡ result_err r → OnOk r P → OnOk s P
  on_ok (Ok a) (Ok b) same h = h
  on_ok (Err e) (Ok b) same h = absurd (cc)
  on_ok r (Err f) same h = tt

-- where the answer is refused alike, it is the answer of the same call, of any client that it does the same for
pub made_as : {W client by : ℕ} {A B : Type 0} {call told : ZoneCall W} {old new : ZoneState} (r : Result A ZoneError) (s : Result B ZoneError) → told ≡ call
    → after call by old ≡ after call client old → result_err s ≡ result_err r → IsMade call by old new r → IsMade told client old new s
made_as {W} {client} {by} {A} {B} {call} {told} {old} {new} r s is same refused made = subst (λ (k : ZoneCall W). IsMade k client old new s) (sym is) (record {
  refused = refused ∙ made.refused;
  err = on_err (new ≡ old) r s refused made.err;
  ok = subst (λ (z : ZoneState). OnOk s (new ≡ z)) same (on_ok (new ≡ after call by old) r s refused made.ok);
  identity = made.identity;
  valid = made.valid;
})
