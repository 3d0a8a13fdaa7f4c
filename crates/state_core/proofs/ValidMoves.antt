-- A page is isolated, and its move ends: the zone stays valid, and swept while its latest round is quiet.
use Rattle.std.proofs.Common.{◌≡◌, ℕ, ◌+◌, false, subst, sym, ap, refl, arith, Some, None}
use Rattle.std.specs.FinMap as map
use Rattle.std.specs.FinSet as set
use Rattle.frame_core.specs.declared.record.Cause.{Cause}
use Rattle.frame_core.specs.declared.record.Record.TheVariants.{Isolate, Moved, Back}
use Rattle.frame_core.specs.History.{pins}
use Rattle.frame_core.specs.Moves.{isolated}
use Rattle.state_core.specs.declared.placement.Placement.TheVariants.{At, Moving}
use Rattle.state_core.specs.declared.round.Pair.{Pair}
use Rattle.state_core.specs.Carrying.{relocated}
use Rattle.state_core.specs.Ending.{moved_to_target, put_back_to_source, source_of, target_of, HasCause}
use Rattle.state_core.specs.Isolating.{isolate_refusal, isolated_next}
use Rattle.state_core.specs.Valid.{IsValidZone}
use Rattle.state_core.specs.Pairs.{IsPair}
use Rattle.state_core.specs.Swept.{SweptIfQuiet}
use Rattle.state_core.specs.ZoneState.{ZoneState}
use Rattle.state_core.proofs.Ending.{can_move_on, moved_recorded, can_go_back, back_recorded}
use Rattle.state_core.proofs.Facts.{room_for_two}
use Rattle.state_core.proofs.Isolating.{can_isolate, isolate_recorded}
use Rattle.state_core.proofs.Moving.{valid_settled}
use Rattle.state_core.proofs.Quiet.{quiet_before, swept_ended}
use Rattle.state_core.proofs.Sweeping.{swept_isolated, swept_arrived}

pub swept_if_isolated : (v : ZoneState) (pair : Pair) → IsValidZone v → IsPair v pair.page pair.source pair.target → SweptIfQuiet (isolated_next v pair)
swept_if_isolated v pair law is quiet = swept_isolated v pair law (law.fingers.swept (quiet_before v (Isolate pair.page (isolated v.records)) law refl quiet)) is

pub valid_isolated : (v : ZoneState) (pair : Pair) → IsValidZone v → IsPair v pair.page pair.source pair.target → isolate_refusal v ≡ None → IsValidZone (isolated_next v pair)
valid_isolated v pair law is accepted =
    valid_settled (can_isolate v pair law is) (Isolate pair.page (isolated v.records)) (isolate_recorded v pair law is (room_for_two v accepted)) (pair.source + 1) pair.target
    (let low = is.to.low in let high = is.to.high in let fingers = law.fingers.ordered.1 in (omega arith, omega arith))
    (swept_if_isolated v pair law is)

module _ (v : ZoneState) (page serial source target : ℕ) (law : IsValidZone v) (at : map.get v.placement page ≡ Some (Moving serial source target)) where
  pub swept_if_moved : SweptIfQuiet (relocated v (Moved serial) page (At target))
  swept_if_moved quiet = swept_arrived v page serial source target law (law.fingers.swept (quiet_before v (Moved serial) law refl quiet)) at

  pub swept_if_put_back : (cause : Cause) → SweptIfQuiet (relocated v (Back cause serial) page (At source))
  swept_if_put_back cause = swept_ended v (relocated v (Back cause serial) page (At source)) (Back cause serial) law refl refl refl

pub valid_moved : (v : ZoneState) (serial page source target : ℕ) → IsValidZone v → map.get v.placement page ≡ Some (Moving serial source target) → set.contains v.lent_pages page ≡ false → pins v.records page ≡ 0 → IsValidZone (moved_to_target v serial page)
valid_moved v serial page source target law at here none =
    subst (λ (frame : ℕ). IsValidZone (relocated v (Moved serial) page (At frame))) (sym (ap target_of at))
    (valid_settled (can_move_on v page serial source target law at) (Moved serial) (moved_recorded v page serial source target law at here none) v.migrate v.free law.fingers.ordered (swept_if_moved v page serial source target law at))

pub valid_put_back : (v : ZoneState) (serial page source target : ℕ) (cause : Cause) → IsValidZone v → map.get v.placement page ≡ Some (Moving serial source target) → set.contains v.lent_pages page ≡ false → HasCause cause (pins v.records page) → IsValidZone (put_back_to_source v serial page cause)
valid_put_back v serial page source target cause law at here has =
    subst (λ (frame : ℕ). IsValidZone (relocated v (Back cause serial) page (At frame))) (sym (ap source_of at))
    (valid_settled (can_go_back v page serial source target law at) (Back cause serial) (back_recorded v page serial source target law at here cause has) v.migrate v.free law.fingers.ordered (swept_if_put_back v page serial source target law at cause))
