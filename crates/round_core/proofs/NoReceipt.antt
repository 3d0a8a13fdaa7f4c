-- The steps of a round are no receipts, and what they leave is what the lock keeps.
use Rattle.std.proofs.Common.{◌≡◌, ℕ, true, List, ◌∷◌, refl, sym, ap, subst, ◌∙◌, Option, Some, nat_eq}
use Rattle.std.specs.FinMap as map
use Rattle.frame_core.specs.declared.record.Cause.{Cause}
use Rattle.frame_core.specs.declared.record.Cause.TheVariants.{Pinned}
use Rattle.frame_core.specs.declared.record.Record.{Record}
use Rattle.frame_core.specs.declared.record.Record.TheVariants.{Isolate, Moved, Back}
use Rattle.frame_core.specs.History.{pins}
use Rattle.frame_core.specs.Moves.{isolated}
use Rattle.frame_core.specs.Page.{IsolatedPage}
use Rattle.hand_core.specs.Told.{Told}
use Rattle.zone_core.specs.ByHand.{scan_step}
use Rattle.zone_core.specs.ZoneIdentity.{HasIdentity}
use Rattle.zone_core.proofs.Scanning.{by_scan}
use Rattle.state_core.specs.declared.moves.Ended.{Ended}
use Rattle.state_core.specs.declared.moves.Ended.TheVariants as ended
use Rattle.state_core.specs.declared.placement.Placement.TheVariants.{Moving}
use Rattle.state_core.specs.Ending.{committed, moved_to_target, put_back_to_source, Ends}
use Rattle.state_core.specs.Valid.{IsValidZone}
use Rattle.state_core.specs.ZoneState.{ZoneState}
use Rattle.round_core.proofs.Beside.{either}
use Rattle.round_core.specs.Calls.{is_of_round}

module _ (told : List Record → Option Told) (none : (entry : Record) (records : List Record) → is_of_round entry ≡ true → told (entry ∷ records) ≡ told records) (z : ZoneState) where
  -- the scanner isolates a page, or stops
  pub scan_tells_none : IsValidZone z → told (scan_step z).records ≡ told z.records
  scan_tells_none law = by_scan z law (λ w. told w.records ≡ told z.records) (λ e. refl) (λ pair t. none (Isolate pair.page (isolated z.records)) z.records refl)

  -- the move of a page ends
  pub back_tells_none : (serial page : ℕ) (cause : Cause) → told (put_back_to_source z serial page cause).records ≡ told z.records
  back_tells_none serial page cause = none (Back cause serial) z.records refl

  pub commit_tells_none : (serial page : ℕ) → told (committed z serial page).records ≡ told z.records
  commit_tells_none serial page =
      either (λ (w : ZoneState). told w.records ≡ told z.records) (nat_eq (pins z.records page) 0) (moved_to_target z serial page) (put_back_to_source z serial page Pinned)
      (none (Moved serial) z.records refl)
      (back_tells_none serial page Pinned)

-- what a step leaves is what the lock keeps
pub leaves : (told : List Record → Option Told) (keeps : ZoneState → Type 0) (z w z_new : ZoneState) {number blocks : ℕ} {stub : Option Told} → z_new ≡ w → IsValidZone z_new → HasIdentity z.number z.blocks z_new → keeps w
    → told w.records ≡ told z.records → HasIdentity number blocks z → told z.records ≡ stub → IsValidZone z_new × HasIdentity number blocks z_new × keeps z_new × (told z_new.records ≡ stub)
leaves told keeps z w z_new is valid same kept none identity stub_is = (
  valid,
  (same.0 ∙ identity.0, same.1 ∙ identity.1),
  subst keeps (sym is) kept,
  ap (λ (v : ZoneState). told v.records) is ∙ none ∙ stub_is,
)

-- the way of a page whose move ended
pub record IsOnItsWay (z : ZoneState) (page serial : ℕ) : Type 0 where
  pub source : ℕ
  pub target : ℕ
  pub way : map.get z.placement page ≡ Some (Moving serial source target)

pub way_of : (z z_new : ZoneState) (p : IsolatedPage) (e : Ended) → Ends z z_new p e → IsOnItsWay z p.page.number p.serial
way_of z z_new p ended.Moved is = record { source = is.source; target = is.target; way = is.way }
way_of z z_new p ended.Back is = record { source = is.source; target = is.target; way = is.way }
