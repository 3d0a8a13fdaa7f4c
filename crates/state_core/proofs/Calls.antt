-- Each call that isn't refused leaves a valid zone valid.
use Rattle.std.proofs.Common.{◌≡◌, ℕ, ◌+◌, ◌<◌, ◌≤◌, Bool, true, false, cond, length, refl, sym, ap, ◌∙◌, subst, arith, ◌-◌, not, is_some, nat_eq, ◌&&◌, Option, Some, None, IsSome}
use Rattle.std.specs.Prelude.{IsTrue, ◌∷◌, unwrap_or}
use Rattle.std.specs.FinMap as map
use Rattle.std.specs.Option.{option_and_then}
use Rattle.std.proofs.lemmas.Bool.{and_from, and_parts, not-false, ltb-true, leb-false, eq-eqb, eqb-true}
use Rattle.std.proofs.lemmas.Bool.Decides.{nat_tests}
use Rattle.frame_core.proofs.Searches.{lowest_some}
use Rattle.frame_core.specs.declared.place.Address.{Address}
use Rattle.frame_core.specs.declared.record.Record.TheVariants as entry
use Rattle.frame_core.specs.History.{page_at, maps, pins}
use Rattle.frame_core.specs.Moves.{out}
use Rattle.state_core.specs.declared.call.ZoneCall.{ZoneCall}
use Rattle.state_core.specs.declared.call.ZoneCall.TheVariants.{Map, MapAt, Load, Store, Share, Unmap, Pin, Unpin, TakeOrder, GiveOrder, Mark, Unmark}
use Rattle.state_core.specs.declared.placement.Placement.{Placement}
use Rattle.state_core.specs.declared.placement.Placement.TheVariants.{At}
use Rattle.state_core.specs.Access.{access_refusal, loaded, stored}
use Rattle.state_core.specs.Calls.{refusal_of, answer_of, after, answers, record_of, IsInRange}
use Rattle.state_core.specs.HandingOut.{is_order, is_run, lowest_run, take_order_refusal, give_order_refusal, block_taken, block_given}
use Rattle.state_core.specs.Valid.{IsValidZone}
use Rattle.state_core.specs.Mapping.{map_refusal, map_at_refusal, mapped}
use Rattle.state_core.specs.Packed.{frame_of}
use Rattle.state_core.specs.Pinning.{pins_at, pin_refusal, unpin_refusal, pinned, unpinned}
use Rattle.state_core.specs.Sharing.{share_refusal, shared}
use Rattle.state_core.specs.Unmapping.{is_last, last_refusal, unmap_refusal, unmapped}
use Rattle.state_core.specs.ZoneState.{ZoneState, frame_count, has_address, has_room, is_free, frame_for, lowest_free_frame, lowest_unused_page, placement_at}
use Rattle.state_core.proofs.Accepted.{passed, both_passed, in_a_frame}
use Rattle.state_core.proofs.Accessed.{valid_loaded, valid_stored}
use Rattle.state_core.proofs.Facts.{in_table, none_is, spare, page_named}
use Rattle.state_core.proofs.Finding.{frame_for_free, some_lowest, unused_is, unused_left}
use Rattle.state_core.proofs.HandingOut.{valid_block_taken, valid_block_given}
use Rattle.state_core.proofs.Mapping.{CanPlace, placed_valid}
use Rattle.state_core.proofs.Marking.{valid_marked, valid_unmarked}
use Rattle.state_core.proofs.Pinning.{valid_pinned, valid_unpinned}
use Rattle.state_core.proofs.Sharing.{valid_shared}
use Rattle.state_core.proofs.Unmapping.{valid_unmapped}

-- a page that loses its last address has no pin
pub last_unpinned : (z : ZoneState) (address : Address) (page : ℕ) → page_at z.records address ≡ Some page → last_refusal z address ≡ None → maps z.records page ≡ 1 → pins z.records page ≡ 0
last_unpinned z address page named accepted one =
    let here : pins_at z address ≡ pins z.records page = ap (λ (o : Option ℕ). pins z.records (unwrap_or o 0)) named in
    let last : is_last z address ≡ true = ap (λ (o : Option ℕ). nat_eq (maps z.records (unwrap_or o 0)) 1) named ∙ eq-eqb _ 1 one in
    sym here ∙ eqb-true _ 0 (not_pinned (is_last z address) (nat_eq (pins_at z address) 0) (passed _ _ _ accepted).0 last)
  where
    not_pinned : (a b : Bool) → (a && not b) ≡ false → a ≡ true → b ≡ true
    not_pinned true true e last = refl
    not_pinned true false e last = cc
    not_pinned false b e last = cc

-- where a page keeps a pin if it rests and its words are lent, it has another one
pub keeps_one : (pins : ℕ) (lent : Bool) → nat_eq pins 0 ≡ false → (nat_eq pins 1 && lent) ≡ false → lent ≡ true → 1 < pins
keeps_one pins lent some kept away = grind (arith, nat_tests, some, kept, away)

of_this_order : (o : Option ℕ) (order : ℕ) → is_order o order ≡ true → o ≡ Some order
of_this_order None order e = cc
of_this_order (Some held) order e = ap Some (eqb-true held order e)

module _ (z : ZoneState) where
  room_passed : not (has_room z) ≡ false → length (out z.records) < z.room
  room_passed e = spare z (not-false _ e)

  found : (o : Option ℕ) → is_some o ≡ true → o ≡ Some (unwrap_or o 0)
  found None e = cc
  found (Some n) e = refl

  module _ (law : IsValidZone z) (client : ℕ) where
    unused : IsSome (lowest_free_frame z) → (page : ℕ) × (lowest_unused_page z ≡ Some page)
    unused some = by (lowest_unused_page z) refl where
      by : (o : Option ℕ) → lowest_unused_page z ≡ o → (page : ℕ) × (lowest_unused_page z ≡ Some page)
      by None e = absurd (unused_left z law some e)
      by (Some page) e = (page, e)

    kept_placed : (address : Address) (unmovable : Bool) (frame : ℕ) → has_address z address ≡ true → length (out z.records) < z.room → page_at z.records address ≡ None
        → is_free z frame ≡ true → frame < frame_count z → IsValidZone (mapped z client address unmovable frame)
    kept_placed address unmovable frame known room vacant free within =
        let page = unused (some_lowest z frame free within) in
        let is = unused_is z page.0 page.1 in
        let named : unwrap_or (lowest_unused_page z) 0 ≡ page.0 = ap (λ (o : Option ℕ). unwrap_or o 0) page.1 in
        placed_valid z client address unmovable _ frame (subst (λ (p : ℕ). CanPlace z address p frame) (sym named) (record {
          valid = law;
          spare = room;
          inside = in_table z address known;
          vacant = vacant;
          unused = is.1;
          numbered = is.0;
          free = free;
          within = within;
        }))

    kept_map : (address : Address) (unmovable : Bool) → map_refusal z address ≡ None → IsValidZone (mapped z client address unmovable (unwrap_or (frame_for z unmovable) 0))
    kept_map address unmovable accepted =
        let known = passed _ _ _ accepted in
        let room = passed _ _ _ known.1 in
        let vacant = passed _ _ _ room.1 in
        let some = passed _ _ _ vacant.1 in
        let free = frame_for_free z unmovable (not-false _ some.0) in
        kept_placed address unmovable _ (not-false _ known.0) (room_passed room.0) (none_is _ vacant.0) free.1 free.0

    kept_map_at : (address : Address) (unmovable : Bool) (frame : ℕ) → map_at_refusal z address frame ≡ None → IsValidZone (mapped z client address unmovable frame)
    kept_map_at address unmovable frame accepted =
        let ranges = passed _ _ _ accepted in
        let within = and_parts _ _ (not-false _ ranges.0) in
        let room = passed _ _ _ ranges.1 in
        let vacant = passed _ _ _ room.1 in
        let free = passed _ _ _ vacant.1 in
        kept_placed address unmovable frame within.0 (room_passed room.0) (none_is _ vacant.0) (not-false _ free.0) (ltb-true _ _ within.1)

    kept_load : (address : Address) (word : ℕ) → access_refusal z address ≡ None → IsValidZone (loaded z client address word)
    kept_load address word accepted =
        let room = passed _ _ _ accepted in
        let at = in_a_frame _ _ room.1 in
        valid_loaded z law (room_passed room.0) client address at.0 word at.1

    kept_store : (address : Address) (word value : ℕ) → access_refusal z address ≡ None → IsValidZone (stored z client address word value)
    kept_store address word value accepted = valid_stored z law (room_passed (passed _ _ _ accepted).0) client address word value

    kept_share : (address alias : Address) → share_refusal z address alias ≡ None → IsValidZone (shared z client address alias)
    kept_share address alias accepted =
        let known = passed _ _ _ accepted in
        let room = passed _ _ _ known.1 in
        let both = both_passed _ _ room.1 in
        let at = in_a_frame _ _ room.1 in
        let vacant = passed _ _ _ both.1 in
        let few = passed _ _ _ vacant.1 in
        let page = page_named z address (At at.0) at.1 in
        valid_shared z client address alias page.0 at.0 (record {
          valid = law;
          spare = room_passed room.0;
          named = page.1;
          at = page.2;
          inside = in_table z alias (not-false _ known.0);
          vacant = none_is _ vacant.0;
          few = subst (λ (o : Option ℕ). maps z.records (unwrap_or o 0) < 4) page.1 (leb-false _ _ few.0);
        })

    kept_unmap : (address : Address) → unmap_refusal z address ≡ None → IsValidZone (unmapped z client address)
    kept_unmap address accepted =
        let room = passed _ _ _ accepted in
        let both = both_passed _ _ room.1 in
        let at = in_a_frame _ _ room.1 in
        let page = page_named z address (At at.0) at.1 in
        valid_unmapped z client address page.0 at.0 (record { valid = law; spare = room_passed room.0; named = page.1; at = page.2; unpinned = last_unpinned z address page.0 page.1 both.1 })

    kept_pin : (address : Address) → pin_refusal z address ≡ None → IsValidZone (pinned z client address)
    kept_pin address accepted =
        let room = passed _ _ _ accepted in
        let named = passed _ _ _ room.1 in
        let few = passed _ _ _ named.1 in
        valid_pinned z client address _ (found (page_at z.records address) (not-false _ named.0)) law (room_passed room.0) (leb-false _ _ few.0)

    kept_unpin : (address : Address) → unpin_refusal z address ≡ None → IsValidZone (unpinned z client address)
    kept_unpin address accepted =
        let room = passed _ _ _ accepted in
        let named = passed _ _ _ room.1 in
        let some = passed _ _ _ named.1 in
        let kept = passed _ _ _ some.1 in
        let page = found (page_at z.records address) (not-false _ named.0) in
        let place : (frame : ℕ) → map.get z.placement (unwrap_or (page_at z.records address) 0) ≡ Some (At frame) → is_some (frame_of (placement_at z address)) ≡ true = λ frame rests.
        (ap (λ (o : Option ℕ). is_some (frame_of (option_and_then (map.get z.placement) o))) page ∙ ap (λ (o : Option Placement). is_some (frame_of o)) rests) in
        valid_unpinned z client address _ page law (room_passed room.0) (λ frame rests lent. keeps_one _ _ some.0 kept.0 (and_from _ _ (place frame rests) lent))

    kept_take : (order : ℕ) → 3 ≤ order → order ≤ 9 → take_order_refusal z order ≡ None → IsValidZone (block_taken z (unwrap_or (lowest_run z order) 0) order)
    kept_take order low high accepted =
        let room = passed _ _ _ accepted in
        let some = passed _ _ _ room.1 in
        let run = lowest_some (is_run z order) (frame_count z) _ (found (lowest_run z order) (not-false _ some.0)) in
        valid_block_taken z _ order run.1 law (room_passed room.0) low high

    kept_give : (first order : ℕ) → give_order_refusal z first order ≡ None → IsValidZone (block_given z first order)
    kept_give first order accepted =
        let room = passed _ _ _ (passed _ _ _ accepted).1 in
        let held = passed _ _ _ room.1 in
        valid_block_given z law first order (of_this_order _ order (not-false _ held.0)) (room_passed room.0) (passed _ _ _ held.1).0

-- each call that isn't refused leaves a valid zone valid
pub call_valid : (W : ℕ) (call : ZoneCall W) (client : ℕ) (z : ZoneState) → IsValidZone z → IsInRange call → refusal_of call z ≡ None → IsValidZone (after call client z)
call_valid W (Map address unmovable) client z law range accepted = kept_map z law client address unmovable accepted
call_valid W (MapAt address unmovable frame) client z law range accepted = kept_map_at z law client address unmovable frame accepted
call_valid W (Load address word) client z law range accepted = kept_load z law client address word accepted
call_valid W (Store address word value) client z law range accepted = kept_store z law client address word value accepted
call_valid W (Share address alias) client z law range accepted = kept_share z law client address alias accepted
call_valid W (Unmap address) client z law range accepted = kept_unmap z law client address accepted
call_valid W (Pin address) client z law range accepted = kept_pin z law client address accepted
call_valid W (Unpin address) client z law range accepted = kept_unpin z law client address accepted
call_valid W (TakeOrder order) client z law range accepted = kept_take z law client order range.0 range.1 accepted
call_valid W (GiveOrder first order) client z law range accepted = kept_give z law client first order accepted
call_valid W (Mark block) client z law range accepted = valid_marked z law (room_passed z (passed _ _ _ (passed _ _ _ accepted).1).0) block
call_valid W (Unmark block) client z law range accepted = valid_unmarked z law (room_passed z (passed _ _ _ (passed _ _ _ accepted).1).0) block

-- an unmap keeps what it keeps whether or not the address was the page's last
by_last : (P : ZoneState → Type 0) (b : Bool) (gone still : ZoneState) → P gone → P still → P (cond b gone still)
by_last P true gone still last more = last
by_last P false gone still last more = more

pub call_shape : (W : ℕ) (call : ZoneCall W) (client : ℕ) (z : ZoneState) → ((after call client z).number ≡ z.number) × ((after call client z).blocks ≡ z.blocks) × ((after call client z).page_size ≡ z.page_size)
call_shape W (Unmap address) client z = by_last (λ v. (v.number ≡ z.number) × (v.blocks ≡ z.blocks) × (v.page_size ≡ z.page_size)) (is_last z address) _ _ (refl, refl, refl) (refl, refl, refl)
call_shape W _ client z = (refl, refl, refl)

-- the room that a call finds which isn't refused
call_room : (W : ℕ) (call : ZoneCall W) (z : ZoneState) → refusal_of call z ≡ None → length (out z.records) < z.room
call_room W (Map address unmovable) z accepted = room_passed z (passed _ _ _ (passed _ _ _ accepted).1).0
call_room W (Share address alias) z accepted = room_passed z (passed _ _ _ (passed _ _ _ accepted).1).0
call_room W (MapAt address unmovable frame) z accepted = room_passed z (passed _ _ _ (passed _ _ _ accepted).1).0
call_room W (GiveOrder first order) z accepted = room_passed z (passed _ _ _ (passed _ _ _ accepted).1).0
call_room W (Mark block) z accepted = room_passed z (passed _ _ _ (passed _ _ _ accepted).1).0
call_room W (Unmark block) z accepted = room_passed z (passed _ _ _ (passed _ _ _ accepted).1).0
call_room W _ z accepted = room_passed z (passed _ _ _ accepted).0

-- what a call answers is an answer to it
pub call_answered : (W : ℕ) (call : ZoneCall W) (z : ZoneState) → IsTrue (answers call (answer_of call z))
call_answered W (Map address unmovable) z = refl
call_answered W _ z = refl

-- a call adds the record that it tells with its answer, and takes a place
call_noted : (W : ℕ) (call : ZoneCall W) (client : ℕ) (z : ZoneState)
    → ((after call client z).records ≡ record_of call client (answer_of call z) ∷ z.records) × ((after call client z).room ≡ z.room - 1)
call_noted W (Unmap address) client z = by_last (λ v. (v.records ≡ entry.Unmap client address ∷ z.records) × (v.room ≡ z.room - 1)) (is_last z address) _ _ (refl, refl) (refl, refl)
call_noted W _ client z = (refl, refl)

pub call_recorded : (W : ℕ) (call : ZoneCall W) (client : ℕ) (z : ZoneState) → (after call client z).records ≡ record_of call client (answer_of call z) ∷ z.records
call_recorded W call client z = (call_noted W call client z).0

pub call_took : (W : ℕ) (call : ZoneCall W) (client : ℕ) (z : ZoneState) → refusal_of call z ≡ None → (after call client z).room + 1 ≡ z.room
call_took W call client z accepted = let room = call_room W call z accepted in omega (arith, (call_noted W call client z).1, room)
