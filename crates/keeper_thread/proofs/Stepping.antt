-- What a room keeps is so after a step too.
use Rattle.std.proofs.Common.{◌≡◌, ℕ, zero, suc, ◌+◌, ◌*◌, ◌-◌, ◌^◌, ◌<◌, ◌≤◌, Bool, true, false, ap, refl, subst, arith}
use Rattle.std.specs.Prelude.{Result, Ok, Err, IfOk, OnErr, nat_lt}
use Rattle.std.proofs.lemmas.Bool.{ltb-true, ltb-false}
use Rattle.keeper_core.specs.Keeping.{Keeper, IsKept}
use Rattle.keeper_core.specs.declared.keeper.Step.{Step}
use Rattle.keeper_core.specs.declared.keeper.Step.TheVariants.{Emptied, Claimed, Rested}
use Rattle.keeper_thread.specs.Working.{plus, worked, IsWithin}
use Rattle.keeper_thread.specs.declared.work.Work.{Work}
use Rattle.state_core.specs.ZoneState.{ZoneState}
use Rattle.state_core.specs.declared.error.ZoneError.{ZoneError}

-- one step more, which moved so many pages
module _ (most pages steps more : ℕ) (within : pages ≤ most * steps) (few : more ≤ most) (fits : steps < 2 ^ 64) where
  -- there is room in the count of steps, and there is none
  counted : (b : Bool) → nat_lt steps (2 ^ 64 - 1) ≡ b → 0 < most → plus pages more ≤ most * plus steps 1
  counted true h some =
      let room : steps < 2 ^ 64 - 1 = ltb-true _ _ h in
      let is : plus steps 1 ≡ steps + 1 = omega (arith, room) in
      let product : most * plus steps 1 ≡ most * (steps + 1) = ap (λ n. most * n) is in
      omega (arith, product, within, few)
  counted false h some =
      let full : 2 ^ 64 - 1 ≤ steps = ltb-false _ _ h in
      let is : plus steps 1 ≡ 2 ^ 64 - 1 = omega (arith, full) in
      let product : most * plus steps 1 ≡ most * (2 ^ 64 - 1) = ap (λ n. most * n) is in
      omega (arith, product, some)

one_more : (most pages steps more : ℕ) → pages ≤ most * steps → more ≤ most → steps < 2 ^ 64 → plus pages more ≤ most * plus steps 1
one_more zero pages steps more within few fits = omega (arith, within, few)
one_more (suc m) pages steps more within few fits = counted (suc m) pages steps more within few fits _ refl (omega arith)

-- the same where none moved
still : (most : ℕ) (w : Work) → IsWithin most w → w.steps < 2 ^ 64 → w.pages < 2 ^ 64 → w.pages ≤ most * plus w.steps 1
still most w is fits also =
    let same : plus w.pages 0 ≡ w.pages = omega (arith, also) in
    subst (λ n. n ≤ most * plus w.steps 1) same (one_more most w.pages w.steps 0 is (omega arith) fits)

module _ (k : Keeper) (z : ZoneState) (most : ℕ) (k_new : Keeper) (z_new : ZoneState) where
  pub same_keeper : (result : Result Step ZoneError) → OnErr result ((k_new ≡ k) × (z_new ≡ z)) → IfOk result (λ step. IsKept k z most step k_new z_new)
      → (k_new.order ≡ k.order) × (k_new.ready ≡ k.ready)
  same_keeper (Ok (Emptied first pages)) err ok = (ap (λ (k : Keeper). k.order) ok.keeper, ap (λ (k : Keeper). k.ready) ok.keeper)
  same_keeper (Ok (Claimed first pages)) err ok = (ap (λ (k : Keeper). k.order) ok.keeper, ap (λ (k : Keeper). k.ready) ok.keeper)
  same_keeper (Ok Rested) err ok = (ap (λ (k : Keeper). k.order) ok.keeper, ap (λ (k : Keeper). k.ready) ok.keeper)
  same_keeper (Err error) err ok = (ap (λ (k : Keeper). k.order) err.0, ap (λ (k : Keeper). k.ready) err.0)

  pub within : (w : Work) → IsWithin most w → w.steps < 2 ^ 64 → w.pages < 2 ^ 64 → (result : Result Step ZoneError)
      → IfOk result (λ step. IsKept k z most step k_new z_new) → IsWithin most (worked w result)
  within w is fits also (Ok (Emptied first pages)) ok = one_more most w.pages w.steps pages is ok.at_most fits
  within w is fits also (Ok (Claimed first pages)) ok = still most w is fits also
  within w is fits also (Ok Rested) ok = still most w is fits also
  within w is fits also (Err error) ok = still most w is fits also
