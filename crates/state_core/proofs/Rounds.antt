-- Whether a round begins calm, and what holds of a zone after a round began.
use Rattle.std.proofs.Common.{◌≡◌, ℕ, ◌<◌, true, false, not, length, refl, sym, ap, ◌∙◌, arith, ◌&&◌}
use Rattle.state_core.specs.Rounds.{round_begun}
use Rattle.std.proofs.lemmas.Bool.{eq-eqb}
use Rattle.std.proofs.lemmas.Option.{same_Some}
use Rattle.frame_core.proofs.Searches.{none_some}
use Rattle.frame_core.specs.Moves.{out}
use Rattle.state_core.specs.declared.round.RoundStart.{RoundStart}
use Rattle.state_core.specs.Valid.{IsValidZone}
use Rattle.state_core.specs.Pairs.{is_stuck, is_calm}
use Rattle.state_core.specs.ZoneState.{ZoneState, frame_count}
use Rattle.state_core.proofs.Quiet.{quiet_begun}
pub use Rattle.state_core.proofs.Sweeping.{begun}
use Rattle.state_core.proofs.Sweeping.{swept_begun}

pub calm : (v : ZoneState) → length (out v.records) ≡ 0 →
    ((frame : ℕ) → frame < frame_count v → is_stuck v frame ≡ false) → true ≡ is_calm v
calm v none free = sym (λ i. eq-eqb (length (out v.records)) 0 none i && not (none_some (is_stuck v) (frame_count v) free i))

pub valid_from : (v : ZoneState) → IsValidZone v → (start : RoundStart) → start.records ≡ length v.records → start.calm ≡ is_calm v → IsValidZone (begun v start)
valid_from v law start here as_calm = record {
  size = law.size;
  addresses = law.addresses;
  journal = law.journal;
  agrees = law.agrees;
  pages = law.pages;
  blocks = law.blocks;
  loans = law.loans;
  fingers = record {
    ordered = (omega arith, omega arith);
    begun = λ other e. (let same : start.records ≡ other.records =
        ap (λ (s : RoundStart). s.records) (same_Some start other e) in omega arith);
    swept = λ quiet. swept_begun v law (sym as_calm ∙ quiet_begun v.records start here ∙ quiet) start;
  };
  sum = law.sum;
}

pub valid_begun : (v : ZoneState) → IsValidZone v → IsValidZone (round_begun v)
valid_begun v law = valid_from v law (record { records = length v.records; calm = is_calm v }) refl refl
