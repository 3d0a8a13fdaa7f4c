-- Which moves a zone has.
use Rattle.std.proofs.Common.{arith, ◌≡◌, ◌≢◌, ◌*◌, ◌<◌, ◌≤◌, ℕ, Bool, true, false, Some, refl, ap, eq-eqb, ◌∙◌}
use Rattle.std.specs.Prelude.{nat_eq, Option}
use Rattle.std.proofs.lemmas.Bool.{or_left, or_right}
use Rattle.std.specs.FinMap as map
use Rattle.compactd_c.specs.Carried.{is_moving}
use Rattle.state_core.specs.LentMoves.{LentMove, is_lent_move}
use Rattle.state_core.proofs.LentMoves.{lent_way}
use Rattle.state_core.specs.Valid.{IsValidZone, is_under}
use Rattle.state_core.specs.ZoneState.{ZoneState, takes_up}
use Rattle.state_core.specs.declared.placement.Placement.{Placement}
use Rattle.state_core.specs.declared.placement.Placement.TheVariants.{Moving}

-- a page that is moving from a frame to another is moving under its serial
pub moving_on_way : (z : ZoneState) (page serial source target : ℕ) → map.get z.placement page ≡ Some (Moving serial source target) → is_moving z page serial ≡ true
moving_on_way z page serial source target at = ap (λ (o : Option Placement). is_under o serial) at ∙ eq-eqb serial serial refl

-- and neither frame lies outside of the zone
pub outside_of_moves : (z : ZoneState) → IsValidZone z → (frame : ℕ) → 512 * z.blocks ≤ frame → (page serial source target : ℕ) → map.get z.placement page ≡ Some (Moving serial source target) → (frame ≢ source) × (frame ≢ target)
outside_of_moves z valid frame outside page serial source target at =
    let from : source < 512 * z.blocks = valid.pages.within page source (ap (λ (o : Option Placement). takes_up o source) at ∙ or_left (nat_eq source source) _ (eq-eqb source source refl)) in
    let to : target < 512 * z.blocks = valid.pages.within page target (ap (λ (o : Option Placement). takes_up o target) at ∙ or_right (nat_eq target source) _ (eq-eqb target target refl)) in
    (λ same. absurd (omega arith), λ same. absurd (omega arith))

-- a zone hasn't lent the words of a move that it hasn't
pub none_lent : (z : ZoneState) (m : LentMove) → ¬ (map.get z.placement m.page ≡ Some (Moving m.serial m.source m.target)) → is_lent_move z m ≡ false
none_lent z m unknown = go (is_lent_move z m) refl where
  go : (b : Bool) → is_lent_move z m ≡ b → is_lent_move z m ≡ false
  go true is = absurd (unknown (lent_way z m is).0)
  go false is = is
