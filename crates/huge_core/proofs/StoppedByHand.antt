-- A collector that has a zone alone stops as a reservation by hand does.
use Rattle.std.proofs.Common.{◌≡◌, ◌≢◌, ℕ, suc, ◌+◌, ◌-◌, ◌<◌, ◌≤◌, false, List, length, refl, sym, ap, subst, ◌∙◌, append-nil, arith, Option, Some}
use Rattle.std.specs.FinMap as map
use Rattle.std.specs.Prelude.{Result, Err, IfErr}
use Rattle.std.proofs.lemmas.Bool.{false_from_ne_true, false≢true}
use Rattle.arrayvec.specs.ArrayVec.{ArrayVec}
use Rattle.zone_core.specs.ByHand.{by_hand}
use Rattle.zone_core.specs.Outcome.{IsSame}
use Rattle.round_core.specs.Kept.{LockInvariant}
use Rattle.round_core.specs.Rounds.{stop_by_hand, IsWant, IsBroken, IsRefusedEarly}
use Rattle.round_core.specs.declared.error.RoundError.{RoundError}
use Rattle.round_core.specs.declared.round.Round.{Round}
use Rattle.round_core.specs.declared.round.Stop.{Stop as RoundStop}
use Rattle.round_core.specs.declared.round.Stop.TheVariants as round
use Rattle.state_core.specs.declared.error.ZoneError.TheVariants as zone
use Rattle.state_core.specs.HandingOut.{take_order_refusal}
use Rattle.state_core.specs.Valid.{IsValidZone}
use Rattle.state_core.specs.ZoneState.{ZoneState, takes_up}
use Rattle.zone_core.specs.Seats.{ScanSeat, EndSeat}
use Rattle.huge_core.specs.ByHand.{Reservation, stopped, taking, moves, idle_stop, reserved_by_hand, frames_of, after, rounds_for, stop_for, NoneFailed, reservation_for, IsReservedByHand}
use Rattle.huge_core.specs.Huge.{Huge}
use Rattle.huge_core.specs.declared.collector.Collector.{Collector}
use Rattle.huge_core.specs.declared.report.Report.{Report}
use Rattle.huge_core.specs.declared.report.Stop.{Stop}
use Rattle.huge_core.specs.declared.report.Stop.TheVariants.{Enough, NoBlock, Rounds, JournalFull, Refused}
use Rattle.huge_core.proofs.ByHand.{IsUnderWayByHand, where_full, where_none_free, where_idle, after_round}
use Rattle.huge_core.proofs.SameByHand.{AreSame, same_refl, same_trans, where_none, reserved_is}

-- a valid zone is as the lock of a zone keeps it
pub valid_kept : (z : ZoneState) → IsValidZone z → LockInvariant z
valid_kept z law = record {
  loads = law.journal.truthful;
  clear = λ page frame held.
      false_from_ne_true (takes_up (map.get z.placement page) frame) (λ takes. false≢true (sym (law.pages.clear page frame takes) ∙ held));
  valid = law;
}

-- where memory or a thread was wanting for a round, the seats weren't broken
pub unbroken : (error : RoundError) (scan scan_new : ScanSeat) (ends ends_new : EndSeat) → IsRefusedEarly scan scan_new ends ends_new (Err error) → IsWant error → IsBroken scan ends → ⊥
unbroken error scan scan_new ends ends_new early want broken = subst (λ (r : Result Round RoundError). IfErr r IsWant) (early.broken.1 broken).0 want

-- and the zone is as before
pub wanting : (error : RoundError) (now behind : ZoneState) (scan scan_new : ScanSeat) (ends ends_new : EndSeat)
    → IsRefusedEarly scan scan_new ends ends_new (Err error)
    → ((IsBroken scan ends → ⊥) → scan_new.rounds ≡ scan.rounds → IsSame now behind) → IsWant error → IsSame now behind
wanting error now behind scan scan_new ends ends_new early unbegun want =
    unbegun (unbroken error scan scan_new ends ends_new early want) (early.want want)

-- a collector that got these blocks in so many rounds stopped for this reason, and left this zone
abbrev at_end : List (Option Huge) → ℕ → Stop → ZoneState → Reservation
at_end got ran stop z = record { frames = frames_of got; rounds = ran; stop = stop; zone = z }

after_stopped : (got : List (Option Huge)) (ran : ℕ) (stop : Stop) (z : ZoneState)
    → after (frames_of got) ran (stopped stop z) ≡ at_end got ran stop z
after_stopped got ran stop z =
    let frames = append-nil (frames_of got) in
    let rounds : ran + 0 ≡ ran = omega arith in
    λ i. record { frames = frames i; rounds = rounds i; stop = stop; zone = z }

-- why it stops after a round that moved no page
idle_stop_is : (at : RoundStop) (stop : Stop) → at ≢ round.Most → (at ≡ round.Met → stop ≡ NoBlock) → (at ≡ round.JournalFull → stop ≡ JournalFull)
    → stop ≡ idle_stop at
idle_stop_is round.Met stop unlimited met full = met refl
idle_stop_is round.JournalFull stop unlimited met full = full refl
idle_stop_is round.Most stop unlimited met full = absurd (unlimited refl)

-- after such a round no round was refused
none_refused : (c : Collector) (ran : ℕ) (at : RoundStop)
    → (rounds_for c (idle_stop at) ran ≡ c.rounds) × (stop_for (idle_stop at) ≡ idle_stop at)
none_refused c ran round.Met = (refl, refl)
none_refused c ran round.JournalFull = (refl, refl)
none_refused c ran round.Most = (refl, refl)

module _ (c : Collector) (n : ℕ) (start now : ZoneState) (got : ArrayVec (Option Huge)) (ran : ℕ)
    (was : IsUnderWayByHand c.order n start got.items ran now) where
  abbrev wanted : ℕ
  wanted = n - length got.items

  abbrev fs : List ℕ
  fs = frames_of got.items

  -- what it reports is what the reservation by hand does, which had so many rounds left
  told : (report : Report) (behind zone : ZoneState) (left : ℕ) → ran + left ≡ rounds_for c report.stop report.rounds
      → after fs ran (reserved_by_hand c.order left wanted now) ≡ at_end report.got.items report.rounds (stop_for report.stop) behind
      → (NoneFailed report.stop → IsSame behind zone) → IsReservedByHand c n start zone report
  told report behind zone left sum here same =
      let whole = reservation_for c n start report in
      let end = at_end report.got.items report.rounds (stop_for report.stop) behind in
      let all : AreSame whole end = rw (here, sum) at (was.same left) in
      record {
        frames = sym all.frames;
        rounds = sym all.rounds;
        stop = sym all.stop;
        zone_is = λ fine. same_trans whole.zone behind zone all.zone (same fine);
      }

  -- it has as many blocks as it was asked for
  pub stopped_enough : ran ≤ c.rounds → length got.items ≡ n
      → IsReservedByHand c n start now (record { got = got; rounds = ran; stop = Enough })
  stopped_enough most all =
      let left = c.rounds - ran in
      let none : wanted ≡ 0 = omega (arith, all) in
      let here = reserved_is c.order left wanted now ∙ ap (λ (k : ℕ). taking c.order k now (where_none c.order left)) none in
      told (record { got = got; rounds = ran; stop = Enough }) now now left (omega (arith, most))
      (ap (after fs ran) here ∙ after_stopped got.items ran Enough now) (λ fine. same_refl now)

  module _ (fewer : length got.items < n) where
    -- the journal has no place for a block
    pub stopped_full : ran ≤ c.rounds → take_order_refusal now c.order ≡ Some zone.JournalFull
        → IsReservedByHand c n start now (record { got = got; rounds = ran; stop = JournalFull })
    stopped_full most refused =
        let left = c.rounds - ran in
        let here = where_full c.order left wanted now (omega (arith, fewer)) refused in
        told (record { got = got; rounds = ran; stop = JournalFull }) now now left (omega (arith, most))
        (ap (after fs ran) here ∙ after_stopped got.items ran JournalFull now) (λ fine. same_refl now)

    module _ (refused : take_order_refusal now c.order ≡ Some zone.NoBlock) where
      no_round_left : after fs ran (reserved_by_hand c.order 0 wanted now) ≡ at_end got.items ran Rounds now
      no_round_left =
          ap (after fs ran) (where_none_free c.order 0 wanted now (omega (arith, fewer)) refused) ∙ after_stopped got.items ran Rounds now

      -- no block is free, and it may run no more rounds
      pub stopped_rounds : ran ≡ c.rounds → IsReservedByHand c n start now (record { got = got; rounds = ran; stop = Rounds })
      stopped_rounds all =
          told (record { got = got; rounds = ran; stop = Rounds }) now now 0 (omega (arith, all)) no_round_left (λ fine. same_refl now)

      -- no block is free, and a round was refused
      pub stopped_refused : (behind : ZoneState) (error : RoundError) → (IsWant error → IsSame now behind)
          → IsReservedByHand c n start behind (record { got = got; rounds = ran; stop = Refused error })
      stopped_refused behind error same =
          told (record { got = got; rounds = ran; stop = Refused error }) now behind 0 (omega arith) no_round_left same

      -- no block is free, and a round moved no page
      pub stopped_idle : ran < c.rounds → moves now ≡ false → (behind : ZoneState) → IsSame (by_hand now) behind
          → (at : RoundStop) → at ≡ stop_by_hand now → at ≢ round.Most
          → (stop : Stop) → (at ≡ round.Met → stop ≡ NoBlock) → (at ≡ round.JournalFull → stop ≡ JournalFull)
          → IsReservedByHand c n start behind (record { got = got; rounds = ran + 1; stop = stop })
      stopped_idle most idles behind same at at_is unlimited stop met full =
          let hand = by_hand now in
          let by = stop_by_hand now in
          let left = c.rounds - ran - 1 in
          let none = none_refused c (ran + 1) by in
          let here = ap (after fs ran) (where_idle c.order left wanted now (omega (arith, fewer)) refused idles)
          ∙ after_round fs ran (stopped (idle_stop by) hand) ∙ after_stopped got.items (ran + 1) (idle_stop by) hand
          ∙ ap (λ (s : Stop). at_end got.items (ran + 1) s hand) (sym none.1) in
          rw (idle_stop_is at stop unlimited met full ∙ ap idle_stop at_is)
          (told (record { got = got; rounds = ran + 1; stop = idle_stop by }) hand behind (suc left)
          (omega (arith, most, none.0)) here (λ fine. same))
