-- What a call that was made says in the words of its own method.
use Rattle.std.proofs.Common.{◌≡◌, ℕ, Bool, refl, sym, ap, ◌∙◌, Option, None, Some}
use Rattle.std.proofs.lemmas.Bool.{not-false}
use Rattle.std.specs.Prelude.{is_none, is_some, not, unwrap_or, IsSome}
use Rattle.frame_core.specs.declared.place.Address.{Address}
use Rattle.frame_core.specs.declared.record.Record.TheVariants as entry
use Rattle.frame_core.specs.History.{page_at}
use Rattle.state_core.specs.declared.call.ZoneAnswer.{ZoneAnswer}
use Rattle.state_core.specs.declared.call.ZoneAnswer.TheVariants.{Mapped, Value}
use Rattle.state_core.specs.declared.call.ZoneCall.{ZoneCall}
use Rattle.state_core.specs.declared.call.ZoneCall.TheVariants.{Map, MapAt, Load}
use Rattle.state_core.specs.declared.error.ZoneError.TheVariants.{JournalFull, NoFrame, Occupied, Range}
use Rattle.state_core.specs.Access.{access_refusal, value_at}
use Rattle.state_core.specs.Calls.{refusal_of, answer_of, after, record_of}
use Rattle.state_core.specs.Mapping.{map_refusal, map_at_refusal, mapped}
use Rattle.state_core.specs.ZoneState.{ZoneState, frame_for, has_address, has_room, lowest_free_frame, lowest_unused_page}
use Rattle.state_core.proofs.Accepted.{passed}
use Rattle.state_core.proofs.Finding.{frame_for_found}
use Rattle.client_core.specs.Calls.{HasMade, IsAccepted, leaving, loading, mapping, mapping_free}
use Rattle.client_core.specs.Receipts.{Client, with_receipt}

-- there was a frame for the page, where a zone accepted a map
found : (o : Option ℕ) → IsSome o → o ≡ Some (unwrap_or o 0)
found None some = cc
found (Some n) some = refl

free_frame : (z : ZoneState) (address : Address) (unmovable : Bool) → map_refusal z address ≡ None → frame_for z unmovable ≡ Some (unwrap_or (frame_for z unmovable) 0)
free_frame z address unmovable unrefused =
    let unless_ranged = passed (not (has_address z address)) Range _ unrefused in
    let unless_full = passed (not (has_room z)) JournalFull _ unless_ranged.1 in
    let unless_occupied = passed (is_some (page_at z.records address)) Occupied _ unless_full.1 in
    let unless_none = passed (is_none (lowest_free_frame z)) NoFrame None unless_occupied.1 in
    let free = frame_for_found z unmovable (not-false _ unless_none.0) in
    found (frame_for z unmovable) (ap is_some free.1)

module _ {W : ℕ} (old new : Client) (answer : ZoneAnswer) where
  -- a valid zone accepted a call that was made, and is what the call leaves
  module _ (call : ZoneCall W) (made : HasMade old call answer new) where
    accepted_by : {X : Type 0} (leaves : ZoneState → X → ZoneState → Type 0) (x : X) → leaves made.0.zone x (after call old.number made.0.zone) → IsAccepted (refusal_of call) leaves x
    accepted_by leaves x left = record { zone = made.0.zone; valid = made.0.valid; accepted = made.0.accepted; zone_new = after call old.number made.0.zone; left = left }

    pub accepted : IsAccepted (refusal_of call) (leaving (after call old.number)) tt
    accepted = accepted_by (leaving (after call old.number)) tt refl

    -- and its receipt is the record of what the zone answers
    pub receipt_is : new ≡ with_receipt old (record_of call old.number (answer_of call made.0.zone))
    receipt_is = made.1 ∙ ap (λ (a : ZoneAnswer). with_receipt old (record_of call old.number a)) made.0.answer_is

  -- a load has the value in its receipt
  pub load_accepted : (address : Address) (word value : ℕ) → HasMade {W = W} old (Load address word) answer new → answer ≡ Value value
      → IsAccepted (λ zone. access_refusal zone address) (loading old.number address word) value
  load_accepted address word value made is =
      let same : Value value ≡ Value (value_at made.0.zone address word) = sym is ∙ made.0.answer_is in
      accepted_by (Load address word) made (loading old.number address word) value (cc, refl)

  -- a map has the number of the fresh page in its receipt
  pub map_at_went : (address : Address) (unmovable : Bool) (frame : ℕ) → HasMade {W = W} old (MapAt address unmovable frame) answer new
      → (page : ℕ) × (new ≡ with_receipt old (entry.Map old.number address page))
      × IsAccepted (λ zone. map_at_refusal zone address frame) (mapping old.number address unmovable frame) page
  map_at_went address unmovable frame made = (
    unwrap_or (lowest_unused_page made.0.zone) 0,
    receipt_is (MapAt address unmovable frame) made,
    accepted_by (MapAt address unmovable frame) made (mapping old.number address unmovable frame) _ (refl, refl),
  )

  pub map_went : (address : Address) (unmovable : Bool) (page_told frame : ℕ) → answer ≡ Mapped page_told frame → HasMade {W = W} old (Map address unmovable) answer new
      → (page : ℕ) × (new ≡ with_receipt old (entry.Map old.number address page))
      × IsAccepted (λ zone. map_refusal zone address) (mapping_free old.number address unmovable frame) page
  map_went address unmovable page_told frame is made =
      let zone = made.0.zone in
      let page = unwrap_or (lowest_unused_page zone) 0 in
      let free = unwrap_or (frame_for zone unmovable) 0 in
      let told : Mapped page free ≡ Mapped page_told frame = sym made.0.answer_is ∙ is in
      let same : free ≡ frame = cc in (
        page,
        receipt_is (Map address unmovable) made,
        accepted_by (Map address unmovable) made (mapping_free old.number address unmovable frame) page
            (free_frame zone address unmovable made.0.accepted ∙ ap Some same, (refl, ap (mapped zone old.number address unmovable) same)),
      )
