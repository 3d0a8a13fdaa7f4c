-- What the answer of a zone under its lock tells of the zone.
use Rattle.std.proofs.Common.{◌≡◌, ℕ, List, length, Bool, true, false, not, sym, subst, Some, None}
use Rattle.std.specs.Prelude.{Result, Ok, Err, IfErr, OnOk, IfSome, is_none, if◌then◌else◌}
use Rattle.std.specs.Result.{result_err}
use Rattle.state_core.specs.declared.error.ZoneError.{ZoneError}
use Rattle.state_core.specs.declared.error.ZoneError.TheVariants.{JournalFull, NoBlock}
use Rattle.state_core.specs.Contents.{contents_refusal, contents_from, contents_written}
use Rattle.state_core.specs.HandingOut.{lowest_run, take_order_refusal, give_order_refusal, block_given}
use Rattle.state_core.specs.Valid.{IsValidZone}
use Rattle.state_core.specs.ZoneState.{ZoneState, has_room}
use Rattle.zone_core.specs.ZoneIdentity.{HasIdentity}
use Rattle.huge_core.specs.Huge.{Huge, IsRefused, IsTakenBack, IsRead, IsWritten, IsRefusedWords}

pub refused : (zone : ZoneState) (order : ℕ) → IsValidZone zone → (result : Result Huge ZoneError)
    → result_err result ≡ take_order_refusal zone order → IfErr result (IsRefused order)
refused zone order valid (Ok huge) is = tt
refused zone order valid (Err error) is = record { zone = zone; valid = valid; refused = sym is }

-- a valid zone refuses a block
pub refused_by : (zone : ZoneState) (order : ℕ) (error : ZoneError) → IsValidZone zone → take_order_refusal zone order ≡ Some error
    → IsRefused order error
refused_by zone order error valid is = record { zone = zone; valid = valid; refused = is }

-- where a block is refused and the journal isn't full, no block is free
pub refused_no_block : (zone : ZoneState) (order : ℕ) (error : ZoneError) → take_order_refusal zone order ≡ Some error
    → (error ≡ JournalFull → ⊥) → take_order_refusal zone order ≡ Some NoBlock
refused_no_block zone order error refused other =
    subst (λ (e : ZoneError). take_order_refusal zone order ≡ Some e)
    (only (has_room zone) (is_none (lowest_run zone order)) error refused other) refused
  where
    only : (room none : Bool) (error : ZoneError) → (if not room then Some JournalFull else if none then Some NoBlock else None) ≡ Some error
        → (error ≡ JournalFull → ⊥) → error ≡ NoBlock
    only false none error is other = absurd (other (cc is))
    only true true error is other = cc is
    only true false error is other = absurd (subst (λ o. IfSome o (λ _. ⊥)) is tt)

pub no_block : (order : ℕ) (error : ZoneError) → IsRefused order error → (error ≡ JournalFull → ⊥) → IsRefused order NoBlock
no_block order error was other = refused_by was.zone order NoBlock was.valid (refused_no_block was.zone order error was.refused other)

pub taken_back : (number blocks : ℕ) (zone zone_new : ZoneState) (huge : Huge) → HasIdentity number blocks zone → IsValidZone zone_new → (result : Result Unit (ZoneError × Huge))
    → OnOk result (give_order_refusal zone huge.frame huge.order ≡ None) → OnOk result (zone_new ≡ block_given zone huge.frame huge.order)
    → OnOk result (IsTakenBack number blocks huge)
taken_back number blocks zone zone_new huge identity valid (Ok done) accepted given = record {
  zone = zone;
  zone_new = zone_new;
  identity = identity;
  accepted = accepted;
  given = given;
  valid = valid;
}
taken_back number blocks zone zone_new huge identity valid (Err back) accepted given = tt

pub read : (number blocks : ℕ) (zone : ZoneState) (huge : Huge) (from count : ℕ) (values : List ℕ) → HasIdentity number blocks zone
    → IsValidZone zone → (result : Result Unit ZoneError)
    → result_err result ≡ contents_refusal zone huge.frame huge.order from count
    → OnOk result (values ≡ contents_from zone huge.frame from count) → OnOk result (IsRead number blocks huge from count values)
read number blocks zone huge from count values identity valid (Ok done) accepted are = record {
  zone = zone;
  identity = identity;
  valid = valid;
  accepted = sym {a = None} accepted;
  read = are;
}
read number blocks zone huge from count values identity valid (Err error) accepted are = tt

pub written : (number blocks : ℕ) (zone zone_new : ZoneState) (huge : Huge) (from : ℕ) (values : List ℕ)
    → HasIdentity number blocks zone → IsValidZone zone_new
    → (result : Result Unit ZoneError) → result_err result ≡ contents_refusal zone huge.frame huge.order from (length values)
    → OnOk result (zone_new ≡ contents_written zone huge.frame from values) → OnOk result (IsWritten number blocks huge from values)
written number blocks zone zone_new huge from values identity valid (Ok done) accepted is = record {
  zone = zone;
  zone_new = zone_new;
  identity = identity;
  accepted = sym {a = None} accepted;
  written = is;
  valid = valid;
}
written number blocks zone zone_new huge from values identity valid (Err error) accepted is = tt

pub refused_words : (number blocks : ℕ) (zone : ZoneState) (huge : Huge) (from count : ℕ) → HasIdentity number blocks zone
    → IsValidZone zone → (result : Result Unit ZoneError)
    → result_err result ≡ contents_refusal zone huge.frame huge.order from count → IfErr result (IsRefusedWords number blocks huge from count)
refused_words number blocks zone huge from count identity valid (Ok done) is = tt
refused_words number blocks zone huge from count identity valid (Err error) is =
    record { zone = zone; identity = identity; valid = valid; refused = sym is }
