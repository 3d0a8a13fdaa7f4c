-- A page is isolated and the words of its two frames are lent, and its move ends when they come back: the zone stays valid, no pair comes
-- of it, and the other moves whose words are lent stay as they are.
use Rattle.std.proofs.Common.{◌≡◌, ◌≢◌, ℕ, ◌*◌, Bool, true, false, ◌∷◌, refl, sym, ap, ◌∙◌, Option, Some, None, map as each, nat_eq, ◌&&◌, if◌then◌else◌}
use Rattle.std.specs.Prelude.{IsSome, is_some, length, unwrap_or}
use denote.RawPtr.{◌+ₚ◌}
use Rattle.std.specs.List.{range_with_len}
use Rattle.std.specs.Option.{option_map}
use Rattle.std.specs.FinMap as map
use Rattle.std.specs.FinSet as set
use Rattle.std.proofs.lemmas.Bool.{and_from, and_parts, both_ways, eq-eqb, eqb-true, ne_eqb}
use Rattle.std.proofs.Math.Bool.{and-false}
use Rattle.frame_core.specs.declared.place.Address.{Address}
use Rattle.frame_core.specs.declared.record.Cause.{Cause}
use Rattle.frame_core.specs.declared.record.Cause.TheVariants.{Pinned}
use Rattle.frame_core.specs.declared.record.Record.{Record}
use Rattle.frame_core.specs.declared.record.Record.TheVariants.{Moved, Back, Unmap}
use Rattle.frame_core.specs.History.{page_at, is_page, names, last, pins}
use Rattle.frame_core.specs.Moves.{isolated}
use Rattle.row_core.specs.Seen.{Row}
use Rattle.state_core.specs.declared.placement.Placement.{Placement}
use Rattle.state_core.specs.declared.placement.Placement.TheVariants.{At, Moving}
use Rattle.state_core.specs.declared.round.Pair.{Pair}
use Rattle.state_core.specs.Access.{loaded, stored}
use Rattle.state_core.specs.Carrying.{relocated, words_now}
use Rattle.state_core.specs.Ending.{HasCause, committed, moved_to_target, put_back_to_source}
use Rattle.state_core.specs.Isolating.{isolate_refusal, isolated_next}
use Rattle.state_core.specs.Lending.{block_place}
use Rattle.state_core.specs.LentMoves.{LentMove, IsLentMove, IsCopiedMove, is_lent_move, is_on_way, move_lent, move_returned}
use Rattle.state_core.specs.Mapping.{placed}
use Rattle.state_core.specs.Pairs.{HaveMet, IsPair}
use Rattle.state_core.specs.Rounds.{round_begun}
use Rattle.state_core.specs.Unmapping.{is_last, without_page, unmapped}
use Rattle.state_core.specs.Valid.{IsValidZone, is_under}
use Rattle.state_core.specs.ZoneState.{ZoneState, is_quiet, noted, placement_at}
use Rattle.state_core.proofs.Entries.{contains_insert_same, contains_insert_other, contains_remove_same, contains_remove_other, get_insert_same, get_insert_other, get_remove_other}
use Rattle.state_core.proofs.Facts.{page_named, skipped}
use Rattle.state_core.proofs.Lending.{valid_page_back, valid_page_lent}
use Rattle.state_core.proofs.StaysMet.{met_moved, met_same}
use Rattle.state_core.proofs.ValidMoves.{valid_isolated, valid_moved, valid_put_back}

-- a page is isolated whose words are lent
pub valid_move_lent : (z : ZoneState) (pair : Pair) → IsValidZone z → IsPair z pair.page pair.source pair.target → isolate_refusal z ≡ None → IsSome z.memory → IsValidZone (move_lent z pair)
valid_move_lent z pair law is accepted given =
    let way = get_insert_same z.placement pair.page pair.page (Moving (isolated z.records) pair.source pair.target) refl in
    valid_page_lent (isolated_next z pair) (valid_isolated z pair law is accepted) pair.page (record {
      used = ap (λ (o : Option Placement). is_some o) way;
      pinned = λ frame rests. (let two : Some (Moving (isolated z.records) pair.source pair.target) ≡ Some (At frame) = sym way ∙ rests in absurd (cc));
      lendable = given;
    })

-- its move ends
module _ (z : ZoneState) (serial page source target : ℕ) (law : IsValidZone z) (at : map.get z.placement page ≡ Some (Moving serial source target)) where
  back_here : set.contains (move_returned z page).lent_pages page ≡ false
  back_here = contains_remove_same z.lent_pages page page refl

  pub valid_lent_moved : pins z.records page ≡ 0 → IsValidZone (move_returned (moved_to_target z serial page) page)
  valid_lent_moved none = valid_moved (move_returned z page) serial page source target (valid_page_back z law page) at back_here none

  pub valid_lent_back : (cause : Cause) → HasCause cause (pins z.records page) → IsValidZone (move_returned (put_back_to_source z serial page cause) page)
  valid_lent_back cause has = valid_put_back (move_returned z page) serial page source target cause (valid_page_back z law page) at back_here has

-- in a quiet round no pair comes of a move whose words were lent
pub met_lent_moved : (z : ZoneState) (page serial source target : ℕ) → IsValidZone z → is_quiet z ≡ true → map.get z.placement page ≡ Some (Moving serial source target) → HaveMet z → HaveMet (move_returned (moved_to_target z serial page) page)
met_lent_moved z page serial source target law quiet at met =
    let back = valid_page_back z law page in
    met_moved (move_returned z page) page serial source target back (back.fingers.swept quiet) at (met_same z z.records z.room z.contents z.lent (set.remove z.lent_pages page) (λ q. refl) met)

-- what a zone tests of a move tells where its page is, and that its words are lent
on_way : (o : Option Placement) (serial source target : ℕ) → is_on_way o serial source target ≡ true → o ≡ Some (Moving serial source target)
on_way (Some (Moving s from to)) serial source target e =
    let parts = and_parts (nat_eq s serial && nat_eq from source) _ e in
    let two = and_parts (nat_eq s serial) _ parts.0 in
    λ i. Some (Moving (eqb-true s serial two.0 i) (eqb-true from source two.1 i) (eqb-true to target parts.1 i))
on_way _ serial source target e = cc

pub lent_way : (z : ZoneState) (m : LentMove) → is_lent_move z m ≡ true → (map.get z.placement m.page ≡ Some (Moving m.serial m.source m.target)) × (set.contains z.lent_pages m.page ≡ true)
lent_way z m is = let parts = and_parts (is_on_way (map.get z.placement m.page) m.serial m.source m.target) _ is in (on_way (map.get z.placement m.page) m.serial m.source m.target parts.0, parts.1)

-- a zone passes its own test of a move whose words are lent
pub is_lent : (z : ZoneState) (m : LentMove) → IsLentMove z m → is_lent_move z m ≡ true
is_lent z m its =
    and_from (is_on_way (map.get z.placement m.page) m.serial m.source m.target) _
    (ap (λ (o : Option Placement). is_on_way o m.serial m.source m.target) its.way
    ∙ and_from (nat_eq m.serial m.serial && nat_eq m.source m.source) _ (and_from (nat_eq m.serial m.serial) _ (eq-eqb m.serial m.serial refl) (eq-eqb m.source m.source refl)) (eq-eqb m.target m.target refl))
    its.lent

-- no move whose words are lent is ended twice
pub lent_once : (z : ZoneState) (m : LentMove) → is_lent_move (move_returned z m.page) m ≡ false
lent_once z m = ap (λ b. is_on_way (map.get z.placement m.page) m.serial m.source m.target && b) (contains_remove_same z.lent_pages m.page m.page refl) ∙ and-false _

-- the page of a pair, with these rows, is a move of the zone whose words are lent
pub lent_fresh : (z : ZoneState) (pair : Pair) (from to : Row) → Some from.at ≡ block_place z pair.source → Some to.at ≡ block_place z pair.target → length to.words ≡ z.page_size → length from.words ≡ z.page_size → from.words ≡ words_now z pair.page → IsLentMove (move_lent z pair) (record { page = pair.page; serial = isolated z.records; source = pair.source; target = pair.target; from = from; to = to })
lent_fresh z pair from to source_place target_place to_size from_size words = record {
  way = get_insert_same z.placement pair.page pair.page _ refl;
  lent = contains_insert_same z.lent_pages pair.page pair.page refl;
  source_place = source_place;
  target_place = target_place;
  sizes = (from_size, to_size);
  words = words;
}

-- once its words were copied, it is a copied one
pub lent_copied : (z : ZoneState) (m : LentMove) → IsLentMove z m → IsCopiedMove z (record m { to = record m.to { words = m.from.words } })
lent_copied z m its = record {
  lent = record { way = its.way; lent = its.lent; source_place = its.source_place; target_place = its.target_place; sizes = (its.sizes.0, its.sizes.0); words = its.words };
  copied = refl;
}

-- a move whose words are lent stays one of the zone where the placement and the words of its page stay, and its words stay lent
pub lent_kept : (z next : ZoneState) (m : LentMove) → next.page_size ≡ z.page_size → next.memory ≡ z.memory → map.get next.placement m.page ≡ map.get z.placement m.page → set.contains next.lent_pages m.page ≡ set.contains z.lent_pages m.page → ((w : ℕ) → last next.records m.page w ≡ last z.records m.page w) → IsLentMove z m → IsLentMove next m
lent_kept z next m size memory placement lent words its = record {
  way = placement ∙ its.way;
  lent = lent ∙ its.lent;
  source_place = its.source_place ∙ sym (place m.source);
  target_place = its.target_place ∙ sym (place m.target);
  sizes = (its.sizes.0 ∙ sym size, its.sizes.1 ∙ sym size);
  words = its.words ∙ sym (λ i. each (λ w. words w i) (range_with_len 0 (size i)));
} where
  place : (frame : ℕ) → block_place next frame ≡ block_place z frame
  place frame = λ i. option_map (λ at. at +ₚ frame * size i * 8) (memory i)

-- and so does one that was copied, whatever leaves a move whose words are lent
pub copied_kept : (z next : ZoneState) (m : LentMove) → (IsLentMove z m → IsLentMove next m) → IsCopiedMove z m → IsCopiedMove next m
copied_kept z next m stays its = record { lent = stays its.lent; copied = its.copied }

module _ (z : ZoneState) (m : LentMove) (its : IsLentMove z m) where
  -- its page is another one than each that is elsewhere, or moves under another serial
  apart_page : (page : ℕ) (o : Option Placement) → map.get z.placement page ≡ o → is_under o m.serial ≡ false → m.page ≢ page
  apart_page page o at off same = both_ways _ (ap (λ x. is_under x m.serial) (sym its.way ∙ ap (map.get z.placement) same ∙ at) ∙ off) (eq-eqb m.serial m.serial refl)

  apart_serial : (page serial source target : ℕ) → map.get z.placement page ≡ Some (Moving serial source target) → serial ≢ m.serial → m.page ≢ page
  apart_serial page serial source target at ne = apart_page page _ at (ne_eqb serial m.serial ne)

  pub lent_begun : IsLentMove (round_begun z) m
  lent_begun = lent_kept z (round_begun z) m refl refl refl refl (λ w. refl) its

  pub lent_loaded : (client : ℕ) (address : Address) (word : ℕ) → IsLentMove (loaded z client address word) m
  lent_loaded client address word = lent_kept z (loaded z client address word) m refl refl refl refl (λ w. refl) its

  pub lent_stored : (client : ℕ) (address : Address) (word value frame : ℕ) → placement_at z address ≡ Some (At frame) → IsLentMove (stored z client address word value) m
  lent_stored client address word value frame at =
      let page = page_named z address (At frame) at in
      let unnamed : names z.records address m.page ≡ false =
      ap (λ (o : Option ℕ). is_page o m.page) page.1 ∙ ne_eqb page.0 m.page (λ same. apart_page page.0 _ page.2 refl (sym same)) in
      lent_kept z (stored z client address word value) m refl refl refl refl (λ w. ap (λ b. if b && nat_eq word w then value else last z.records m.page w) unnamed) its

  pub lent_placed : (client : ℕ) (address : Address) (unmovable : Bool) (page frame : ℕ) → map.get z.placement page ≡ None → IsLentMove (placed z client address unmovable page frame) m
  lent_placed client address unmovable page frame unused =
      let ne = apart_page page _ unused refl in
      lent_kept z (placed z client address unmovable page frame) m refl refl
      (get_insert_other z.placement page m.page (At frame) ne) refl
      (λ w. skipped (nat_eq page m.page) 0 (last z.records m.page w) (ne_eqb page m.page (λ same. ne (sym same))))
      its

  pub lent_unmapped : (client : ℕ) (address : Address) (frame : ℕ) → placement_at z address ≡ Some (At frame) → IsLentMove (unmapped z client address) m
  lent_unmapped client address frame at = by_last (is_last z address) where
    page : (q : ℕ) × (page_at z.records address ≡ Some q) × (map.get z.placement q ≡ Some (At frame))
    page = page_named z address (At frame) at

    named : unwrap_or (page_at z.records address) 0 ≡ page.0
    named = ap (λ (o : Option ℕ). unwrap_or o 0) page.1

    by_last : (b : Bool) → IsLentMove (if b then without_page (noted z (Unmap client address)) (unwrap_or (page_at z.records address) 0) else noted z (Unmap client address)) m
    by_last true = lent_kept z _ m refl refl (get_remove_other z.placement _ m.page (λ same. apart_page page.0 _ page.2 refl (same ∙ named))) refl (λ w. refl) its
    by_last false = lent_kept z _ m refl refl refl refl (λ w. refl) its

  -- another page is isolated, and its words are lent or not
  pub lent_isolated : (pair : Pair) (frame : ℕ) → map.get z.placement pair.page ≡ Some (At frame) → IsLentMove (isolated_next z pair) m
  lent_isolated pair frame at = lent_kept z (isolated_next z pair) m refl refl (get_insert_other z.placement pair.page m.page _ (apart_page pair.page _ at refl)) refl (λ w. refl) its

  pub lent_beside : (pair : Pair) (frame : ℕ) → map.get z.placement pair.page ≡ Some (At frame) → IsLentMove (move_lent z pair) m
  lent_beside pair frame at = lent_kept (isolated_next z pair) (move_lent z pair) m refl refl refl (contains_insert_other z.lent_pages pair.page m.page (apart_page pair.page _ at refl)) (λ w. refl) (lent_isolated pair frame at)

  -- the move of another page ends
  module _ (page serial source target : ℕ) (at : map.get z.placement page ≡ Some (Moving serial source target)) (ne : serial ≢ m.serial) where
    lent_relocated : (entry : Record) (frame : ℕ) → ((w : ℕ) → last (entry ∷ z.records) m.page w ≡ last z.records m.page w) → IsLentMove (relocated z entry page (At frame)) m
    lent_relocated entry frame words = lent_kept z (relocated z entry page (At frame)) m refl refl (get_insert_other z.placement page m.page (At frame) (apart_serial page serial source target at ne)) refl words its

    pub lent_after_back : (cause : Cause) → IsLentMove (put_back_to_source z serial page cause) m
    lent_after_back cause = lent_relocated (Back cause serial) _ (λ w. refl)

    pub lent_after_commit : IsLentMove (committed z serial page) m
    lent_after_commit = by_pins (nat_eq (pins z.records page) 0) where
      by_pins : (b : Bool) → IsLentMove (if b then moved_to_target z serial page else put_back_to_source z serial page Pinned) m
      by_pins true = lent_relocated (Moved serial) _ (λ w. refl)
      by_pins false = lent_after_back Pinned

    returned : (next : ZoneState) → IsLentMove next m → IsLentMove (move_returned next page) m
    returned next stays = lent_kept next (move_returned next page) m refl refl refl (contains_remove_other next.lent_pages page m.page (apart_serial page serial source target at ne)) (λ w. refl) stays

    pub lent_after_lent_commit : IsLentMove (move_returned (committed z serial page) page) m
    lent_after_lent_commit = returned (committed z serial page) lent_after_commit

    pub lent_after_lent_back : (cause : Cause) → IsLentMove (move_returned (put_back_to_source z serial page cause) page) m
    lent_after_lent_back cause = returned (put_back_to_source z serial page cause) (lent_after_back cause)
