-- Where the scanners met, they have met for as long as the round is quiet.
use Rattle.std.proofs.Common.{◌≡◌, ℕ, Bool, true, false, refl, sym, ◌∙◌, Some, nat_eq, if◌then◌else◌}
use Rattle.std.proofs.lemmas.Bool.{both_ways}
use Rattle.frame_core.specs.declared.record.Cause.{Cause}
use Rattle.frame_core.specs.declared.record.Cause.TheVariants.{Pinned}
use Rattle.frame_core.specs.declared.record.Record.TheVariants.{Isolate, Moved, Back}
use Rattle.frame_core.specs.History.{pins}
use Rattle.frame_core.specs.Moves.{isolated, moved, put_back}
use Rattle.state_core.specs.declared.call.ZoneCall.{ZoneCall}
use Rattle.state_core.specs.declared.round.Pair.{Pair}
use Rattle.state_core.specs.Calls.{after}
use Rattle.state_core.specs.Ending.{committed, moved_to_target, put_back_to_source}
use Rattle.state_core.specs.LentMoves.{move_lent}
use Rattle.state_core.specs.Pairs.{HaveMet}
use Rattle.state_core.specs.Valid.{IsValidZone}
use Rattle.state_core.specs.ZoneState.{ZoneState, is_quiet}
use Rattle.state_core.proofs.Quiet.{quiet_ended, quiet_kept}
use Rattle.zone_core.specs.Books.{AreBooks}
use Rattle.zone_core.specs.Seats.{scan_amount}
use Rattle.zone_core.specs.declared.seats.Answered.TheVariants as answered
use Rattle.zone_core.proofs.StaysBooked.{booked_call, seat_met}

module _ (z : ZoneState) (law : IsValidZone z) where
  pub met_called : {W : ℕ} (call : ZoneCall W) (client : ℕ) → (is_quiet z ≡ true → HaveMet z) → is_quiet (after call client z) ≡ true → HaveMet (after call client z)
  met_called call client met =
      let books : AreBooks (scan_amount (isolated z.records) (Some answered.Met)) (moved z.records) (put_back z.records) z = record { last = Some answered.Met; counted = refl; met = λ noted quiet. met quiet; moved = refl; back = refl } in
      seat_met (isolated z.records) (Some answered.Met) (booked_call client call z law.fingers.begun books) refl refl

  -- a round isn't quiet after a page was put back, and else as quiet as before
  pub loud_back : (serial page : ℕ) (cause : Cause) → is_quiet (put_back_to_source z serial page cause) ≡ false
  loud_back serial page cause = quiet_ended z.records (Back cause serial) z.round refl law.fingers.begun

  pub quiet_committed : (serial page : ℕ) → is_quiet (committed z serial page) ≡ true → is_quiet z ≡ true
  quiet_committed serial page = by (nat_eq (pins z.records page) 0) where
    by : (b : Bool) → is_quiet (if b then moved_to_target z serial page else put_back_to_source z serial page Pinned) ≡ true → is_quiet z ≡ true
    by true quiet = sym (quiet_kept z.records (Moved serial) z.round refl law.fingers.begun) ∙ quiet
    by false quiet = absurd (both_ways _ (loud_back serial page Pinned) quiet)

  pub quiet_isolated : (pair : Pair) → is_quiet (move_lent z pair) ≡ true → is_quiet z ≡ true
  quiet_isolated pair quiet = sym (quiet_kept z.records (Isolate pair.page (isolated z.records)) z.round refl law.fingers.begun) ∙ quiet
