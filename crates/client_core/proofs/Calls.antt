-- What the answer of a zone under its lock tells of the zone.
use Rattle.std.proofs.Common.{◌≡◌, ℕ, List, [], ◌∷◌, ◌++◌, refl, sym, ap, ◌∙◌, append_assoc, Option, None, Some}
use Rattle.std.specs.Prelude.{Result, Ok, Err, IfOk, IfErr, OnOk}
use Rattle.std.specs.Result.{result_err}
use Rattle.hand_core.specs.Told.{Pair, Told, pair_of, written_if}
use Rattle.frame_core.specs.declared.record.Record.{Record}
use Rattle.state_core.specs.declared.call.ZoneAnswer.{ZoneAnswer}
use Rattle.state_core.specs.declared.call.ZoneCall.{ZoneCall}
use Rattle.state_core.specs.declared.error.ZoneError.{ZoneError}
use Rattle.state_core.specs.Calls.{refusal_of, answer_of}
use Rattle.state_core.specs.Valid.{IsValidZone}
use Rattle.state_core.specs.ZoneState.{ZoneState}
use Rattle.round_core.specs.Calls.{IsCall}
use Rattle.client_core.specs.Calls.{IsAccepted, IsMade, IsRefused}
use Rattle.client_core.specs.Receipts.{AreSince}

pub refused : {X : Type 0} (refusal : ZoneState → Option ZoneError) (zone : ZoneState)
    → IsValidZone zone → (result : Result X ZoneError) → result_err result ≡ refusal zone → IfErr result (IsRefused refusal)
refused refusal zone valid (Ok answer) is = tt
refused refusal zone valid (Err error) is = record { zone = zone; valid = valid; refused = sym is }

pub accepted : {X : Type 0} (refusal : ZoneState → Option ZoneError) (leaves : ZoneState → X → ZoneState → Type 0) (answer : X) (zone zone_new : ZoneState)
    → IsValidZone zone → (result : Result (Unit {0}) ZoneError) → result_err result ≡ refusal zone → OnOk result (leaves zone answer zone_new)
    → OnOk result (IsAccepted refusal leaves answer)
accepted refusal leaves answer zone zone_new valid (Ok done) is left = record {
  zone = zone;
  valid = valid;
  accepted = sym is;
  zone_new = zone_new;
  left = left;
}
accepted refusal leaves answer zone zone_new valid (Err error) is left = tt

-- what was told of the zone before, and the receipt, is what was told of the zone afterwards
pub told_by : {client : ℕ} {z z_new : ZoneState} (call : IsCall client z z_new) (told : List Record → Option Told) → told z_new.records ≡ written_if call.entry (told z.records)
    → (stub : Option Told) → told z.records ≡ stub → (receipt : Record) → call.entry ≡ receipt → told z_new.records ≡ written_if receipt stub
told_by call told tells stub before receipt is = tells ∙ (λ i. written_if (is i) (before i))

-- a call was made
pub made : {W : ℕ} (call : ZoneCall W) (zone : ZoneState) → IsValidZone zone → (result : Result (ZoneAnswer × Record) ZoneError)
    → result_err result ≡ refusal_of call zone → IfOk result (λ m. m.0 ≡ answer_of call zone) → IfOk result (λ m. IsMade call m.0)
made call zone valid (Ok m) is answer = record { zone = zone; valid = valid; accepted = sym is; answer_is = answer }
made call zone valid (Err error) is answer = tt

-- what a client holds: its slip is of this pair, and has the receipts since these
abbrev pub Holds : Option Pair → List Record → Option Told → List Record → Type 0
Holds pair before slip receipts = (pair_of slip ≡ pair) × AreSince before slip receipts

since_more : (before : List Record) (slip : Option Told) (receipts : List Record) (receipt : Record)
    → AreSince before slip receipts → AreSince before (written_if receipt slip) (receipts ++ receipt ∷ [])
since_more before None receipts receipt since = tt
since_more before (Some slip) receipts receipt since =
    ap (λ (l : List Record). l ++ receipt ∷ []) since ∙ append_assoc before slip.records (receipt ∷ [])

pub pair_written : (slip : Option Told) (receipt : Record) → pair_of (written_if receipt slip) ≡ pair_of slip
pair_written None receipt = refl
pair_written (Some slip) receipt = refl

-- it holds one receipt more, or the same
pub holds_more : (pair : Option Pair) (before : List Record) (slip slip_new : Option Told) (receipts receipts_new : List Record) (receipt : Record)
    → Holds pair before slip receipts → slip_new ≡ written_if receipt slip → receipts_new ≡ receipts ++ receipt ∷ [] → Holds pair before slip_new receipts_new
holds_more pair before slip slip_new receipts receipts_new receipt holds is more =
    rw (is, more) (pair_written slip receipt ∙ holds.0, since_more before slip receipts receipt holds.1)

pub holds_same : (pair : Option Pair) (before : List Record) (slip slip_new : Option Told) (receipts receipts_new : List Record)
    → Holds pair before slip receipts → slip_new ≡ slip → receipts_new ≡ receipts → Holds pair before slip_new receipts_new
holds_same pair before slip slip_new receipts receipts_new holds is same = rw (is, same) holds
