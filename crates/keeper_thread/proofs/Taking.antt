-- What is known of a block that was taken, or of a refusal, without the lock.
use Rattle.std.proofs.Common.{◌≡◌, ℕ, sym}
use Rattle.std.specs.Prelude.{Result, Ok, Err, IfOk, IfErr, OnOk}
use Rattle.std.specs.Result.{result_err}
use Rattle.keeper_core.specs.Keeping.{take_refusal, IsTaken}
use Rattle.keeper_core.specs.declared.keeper.Taken.{Taken}
use Rattle.keeper_thread.specs.Taking.{WasRefused, WasTaken}
use Rattle.keeper_thread.specs.Working.{Room}
use Rattle.state_core.specs.Valid.{IsValidZone}
use Rattle.state_core.specs.declared.error.ZoneError.{ZoneError}

module _ (order : ℕ) (before after : Room) (kept : before.keeper.order ≡ order) where
  pub took : (result : Result Taken ZoneError) → IfOk result (λ taken. IsTaken before.keeper before.zone taken after.keeper after.zone) → OnOk result (IsValidZone after.zone)
      → IfOk result (λ taken. WasTaken order taken)
  took (Ok taken) is valid = record { before = before; after = after; kept = kept; taken_from = is; valid = valid }
  took (Err error) is valid = tt

  pub refused : (result : Result Taken ZoneError) → result_err result ≡ take_refusal before.keeper before.zone → IfErr result (λ error. WasRefused order error)
  refused (Ok taken) is = tt
  refused (Err error) is = record { room = before; kept = kept; refused = sym is }
