-- Calls of a client, one after the other: those of a read or a write of several words, and what they leave.
use Rattle.std.proofs.Common.{◌≡◌, ℕ, zero, suc, ◌+◌, ◌≤◌, true, false, not, List, [], ◌∷◌, ◌++◌, length, refl, sym, ap, subst, ◌∙◌, append-nil, append_assoc, eq-eqb, Option, None, Some, arith}
use Rattle.std.specs.Prelude.{Result, Ok, Err, OnOk, is_some}
use Rattle.std.specs.Result.{result_err}
use Rattle.std.proofs.lemmas.Bool.{not-false}
use Rattle.std.proofs.lemmas.Bool.Decides.{nat_tests}
use Rattle.std.proofs.lemmas.List.FromFn.{length-map-range_with_len}
use Rattle.frame_core.specs.declared.place.Address.{Address}
use Rattle.frame_core.specs.declared.record.Record.{Record}
use Rattle.frame_core.specs.declared.record.Record.TheVariants.{Load, Store}
use Rattle.frame_core.specs.Moves.{out}
use Rattle.hand_core.specs.Told.{Pair, Told, pair_of, written_if}
use Rattle.state_core.specs.declared.error.ZoneError.{ZoneError}
use Rattle.state_core.specs.declared.placement.Placement.TheVariants.{At}
use Rattle.state_core.specs.Access.{value_at, loaded, stored}
use Rattle.state_core.specs.Bulk.{bulk_refusal, has_room_for, values_at, loaded_all, stored_all}
use Rattle.state_core.specs.Valid.{IsValidZone}
use Rattle.state_core.specs.ZoneState.{ZoneState, placement_at}
use Rattle.state_core.proofs.Accepted.{passed, in_a_frame}
use Rattle.state_core.proofs.Accessed.{valid_loaded, valid_stored}
use Rattle.round_core.specs.Calls.{IsCall}
use Rattle.client_core.specs.Bulk.{AreCalls, records_each, written_all}
use Rattle.client_core.proofs.Calls.{Holds, holds_more, holds_same}

-- a zone that accepts a call in bulk has a place in its journal for each word, and the page is in a frame
bulk_accepted : (z : ZoneState) (address : Address) (from count : ℕ) → bulk_refusal z address from count ≡ None
    → (length (out z.records) + count ≤ z.room) × ((frame : ℕ) × (placement_at z address ≡ Some (At frame)))
bulk_accepted z address from count accepted =
    let room = passed (not (has_room_for z count)) _ _ (passed _ _ _ accepted).1 in
    let fits : has_room_for z count ≡ true = not-false (has_room_for z count) room.0 in
    let spare : length (out z.records) + count ≤ z.room = grind (arith, nat_tests) in
    (spare, in_a_frame (placement_at z address) _ room.1)

-- a read is the loads of its words
loads_are_calls : (z : ZoneState) (client : ℕ) (address : Address) (frame from count : ℕ) → IsValidZone z
    → length (out z.records) + count ≤ z.room → placement_at z address ≡ Some (At frame)
    → AreCalls client (records_each (Load client address) from (values_at z address from count)) z (loaded_all z client address from count)
loads_are_calls z client address frame from zero law spare at = refl
loads_are_calls z client address frame from (suc count) law spare at =
    let left = loaded z client address from in (
      left,
      law,
      eq-eqb client client refl,
      refl,
      loads_are_calls left client address frame (from + 1) count (valid_loaded z law (omega (arith, spare)) client address frame from at) (omega (arith, spare)) at,
    )

-- a write is the stores of its values
stores_are_calls : (z : ZoneState) (client : ℕ) (address : Address) (from : ℕ) (values : List ℕ) → IsValidZone z
    → length (out z.records) + length values ≤ z.room → AreCalls client (records_each (Store client address) from values) z (stored_all z client address from values)
stores_are_calls z client address from [] law spare = refl
stores_are_calls z client address from (value ∷ values) law spare =
    let left = stored z client address from value in (
      left,
      law,
      eq-eqb client client refl,
      refl,
      stores_are_calls left client address (from + 1) values (valid_stored z law (omega (arith, spare)) client address from value) (omega (arith, spare)),
    )

-- an accepted read, and its records
module _ (z z_new : ZoneState) (client : ℕ) (address : Address) (from count : ℕ) (words : List ℕ) where
  pub read_calls : IsValidZone z → (result : Result (Unit {0}) ZoneError) → result_err result ≡ bulk_refusal z address from count
      → OnOk result (words ≡ values_at z address from count) → OnOk result (z_new ≡ loaded_all z client address from count)
      → OnOk result (AreCalls client (records_each (Load client address) from words) z z_new)
  read_calls law (Ok done) accepted values left =
      let known = bulk_accepted z address from count (sym accepted) in
      rw (left, values) (loads_are_calls z client address known.1.0 from count law known.0 known.1.1)
  read_calls law (Err error) accepted values left = tt

  pub read_count : (result : Result (Unit {0}) ZoneError) → OnOk result (words ≡ values_at z address from count) → OnOk result (length words ≡ count)
  read_count (Ok done) values = ap length values ∙ length-map-range_with_len (value_at z address) from count
  read_count (Err error) values = tt

-- an accepted write, and its records
pub write_calls : (z z_new : ZoneState) (client : ℕ) (address : Address) (from : ℕ) (values : List ℕ) → IsValidZone z → (result : Result (Unit {0}) ZoneError)
    → result_err result ≡ bulk_refusal z address from (length values) → OnOk result (z_new ≡ stored_all z client address from values)
    → OnOk result (AreCalls client (records_each (Store client address) from values) z z_new)
write_calls z z_new client address from values law (Ok done) accepted left =
    rw left (stores_are_calls z client address from values law (bulk_accepted z address from (length values) (sym accepted)).0)
write_calls z z_new client address from values law (Err error) accepted left = tt

-- what a lock keeps at each call, it keeps at all of them, and their records were told
module _ (keeps : ZoneState → Type 0) (told : List Record → Option Told) (client : ℕ)
    (each_keeps : (z left : ZoneState) → IsValidZone z → IsCall client z left → keeps z → keeps left)
    (each_tells : (z left : ZoneState) (call : IsCall client z left) → keeps z → told left.records ≡ written_if call.entry (told z.records)) where
  pub kept_by : (entries : List Record) (z z_new : ZoneState) (stub : Option Told) → AreCalls client entries z z_new → keeps z → told z.records ≡ stub
      → keeps z_new × (told z_new.records ≡ written_all entries stub)
  kept_by [] z z_new stub is kept before = (subst keeps (sym is) kept, ap (λ (w : ZoneState). told w.records) is ∙ before)
  kept_by (entry ∷ entries) z z_new stub (left, law, own, more, rest) kept before =
      let call : IsCall client z left = record { entry = entry; own = own; more = more } in
      kept_by entries left z_new (written_if entry stub) rest (each_keeps z left law call kept) (each_tells z left call kept ∙ ap (written_if entry) before)

-- a client holds these receipts more
pub holds_all : (pair : Option Pair) (before : List Record) (entries : List Record) (slip slip_new : Option Told) (receipts receipts_new : List Record)
    → Holds pair before slip receipts → slip_new ≡ written_all entries slip → receipts_new ≡ receipts ++ entries → Holds pair before slip_new receipts_new
holds_all pair before [] slip slip_new receipts receipts_new holds is more =
    holds_same pair before slip slip_new receipts receipts_new holds is (more ∙ append-nil receipts)
holds_all pair before (entry ∷ entries) slip slip_new receipts receipts_new holds is more =
    holds_all pair before entries (written_if entry slip) slip_new (receipts ++ entry ∷ []) receipts_new
    (holds_more pair before slip (written_if entry slip) receipts (receipts ++ entry ∷ []) entry holds refl refl) is
    (more ∙ sym (append_assoc receipts (entry ∷ []) entries))

-- nothing is written where there is no pair
pub none_written : (entries : List Record) (stub : Option Told) → is_some stub ≡ false → stub ≡ written_all entries stub
none_written [] None is = refl
none_written (entry ∷ entries) None is = none_written entries None is
none_written entries (Some told) is = cc

pub no_slip_written : (entries : List Record) (stub slip : Option Told) → pair_of slip ≡ pair_of stub → is_some stub ≡ false → slip ≡ written_all entries slip
no_slip_written entries stub None same is = none_written entries None refl
no_slip_written entries None (Some told) same is = cc
no_slip_written entries (Some other) (Some told) same is = cc
