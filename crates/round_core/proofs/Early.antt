-- When a round isn't begun.
use Rattle.std.proofs.Common.{◌≡◌, ◌+◌, ◌<◌, ℕ, zero, suc, false, [], refl, ap, ◌∙◌, arith, ⊎_elim}
use Rattle.std.specs.Prelude.{Result, Ok, Err, IfErr}
use Rattle.std.specs.List.{list_all, range_with_len}
use Rattle.hand_core.specs.CopyEnds.{DoneTaker, has_ended, has_mark}
use Rattle.zone_core.specs.Seats.{ScanSeat, EndSeat}
use Rattle.round_core.specs.declared.error.RoundError.{RoundError}
use Rattle.round_core.specs.declared.round.Round.{Round}
use Rattle.round_core.specs.Rounds.{IsWant, IsRefusedEarly}

no_marks : (senders : ℕ) → 0 < senders → list_all (has_mark []) (range_with_len 0 senders) ≡ false
no_marks zero some = absurd (omega arith)
no_marks (suc n) some = refl

-- a taker that received nothing has not ended
pub not_ended : (t : DoneTaker) → 0 < t.senders → t.came ≡ [] → has_ended t ≡ false
not_ended t some none = ap (λ came. list_all (has_mark came) (range_with_len 0 t.senders)) none ∙ no_marks t.senders some

-- a round that was begun keeps the clauses about rounds that aren't
pub begun : (scan scan_new : ScanSeat) (ends ends_new : EndSeat) (result : Result Round RoundError) → scan_new.rounds ≡ scan.rounds + 1
    → ends.parts ≡ 64 → ends.moved + ends.back ≡ scan.count → IfErr result (λ error. IsWant error → ⊥) → IsRefusedEarly scan scan_new ends ends_new result
begun scan scan_new ends ends_new result more whole settled late = record {
  broken = (
    λ h. (let same = h.1 in absurd (omega (arith, more, same))),
    λ broken. ⊎_elim (λ missing. absurd (omega (arith, missing, whole))) (λ differs. absurd (differs settled)) broken,
  );
  want = wanted result late;
  same = λ same. absurd (omega (arith, more, same));
} where
  wanted : (r : Result Round RoundError) → IfErr r (λ error. IsWant error → ⊥) → IfErr r (λ error. IsWant error → scan_new.rounds ≡ scan.rounds)
  wanted (Ok round) none = tt
  wanted (Err error) none = λ want. absurd (none want)
