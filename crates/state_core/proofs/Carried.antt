-- What a call of the zone leaves unchanged of the moving pages.
use Rattle.std.proofs.Common.{◌≡◌, ◌≢◌, ℕ, Bool, true, false, not, ◌∷◌, refl, sym, ap, ◌∙◌, Option, Some, None, map as each, nat_eq, ◌&&◌, if◌then◌else◌}
use Rattle.std.specs.Prelude.{unwrap_or}
use Rattle.std.specs.List.{range_with_len}
use Rattle.std.specs.FinMap as map
use Rattle.std.specs.FinSet as set
use Rattle.std.proofs.lemmas.Bool.{and_parts, and_from, both_ways, eq-eqb, eqb-true, ne_eqb, not-true}
use Rattle.frame_core.specs.declared.place.Address.{Address}
use Rattle.frame_core.specs.declared.record.Cause.{Cause}
use Rattle.frame_core.specs.declared.record.Cause.TheVariants.{Pinned}
use Rattle.frame_core.specs.declared.record.Record.{Record}
use Rattle.frame_core.specs.declared.record.Record.TheVariants.{Unmap, Moved, Back}
use Rattle.frame_core.specs.History.{page_at, is_page, names, last, pins}
use Rattle.frame_core.specs.Moves.{isolated, page_of}
use Rattle.frame_core.specs.Page.{IsolatedPage}
use Rattle.state_core.specs.declared.round.Pair.{Pair}
use Rattle.state_core.specs.declared.placement.Placement.{Placement}
use Rattle.state_core.specs.declared.placement.Placement.TheVariants.{At, Moving}
use Rattle.state_core.specs.Valid.{IsValidZone, is_under}
use Rattle.state_core.specs.Ending.{is_own, IsOwnCopy, moved_to_target, put_back_to_source, committed}
use Rattle.state_core.specs.Carrying.{page_now, relocated}
use Rattle.state_core.specs.Rounds.{round_begun}
use Rattle.state_core.specs.Isolating.{isolated_next}
use Rattle.state_core.specs.Mapping.{placed}
use Rattle.state_core.specs.Access.{loaded, stored}
use Rattle.state_core.specs.Unmapping.{is_last, without_page, unmapped}
use Rattle.state_core.specs.ZoneState.{ZoneState, placement_at, noted}
use Rattle.state_core.proofs.Facts.{skipped, page_named}
use Rattle.state_core.proofs.Entries.{get_insert_same, get_insert_other, get_remove_other}

-- a page is moving under one serial at most
one_serial : (o : Option Placement) (s t : ℕ) → is_under o s ≡ true → is_under o t ≡ true → s ≡ t
one_serial (Some (Moving serial source target)) s t e f = sym (eqb-true serial s e) ∙ eqb-true serial t f
one_serial _ s t e f = cc

-- a page of a zone, isolated under a serial, is moving there under this serial
pub own_under : (z : ZoneState) (p : IsolatedPage) → is_own z p ≡ true → is_under (map.get z.placement p.page.number) p.serial ≡ true
own_under z p own = (and_parts (nat_eq p.page.zone z.number) _ (and_parts _ (not (set.contains z.lent_pages p.page.number)) own).0).1

-- and its words aren't lent
pub own_here : (z : ZoneState) (p : IsolatedPage) → is_own z p ≡ true → set.contains z.lent_pages p.page.number ≡ false
own_here z p own = not-true _ (and_parts (nat_eq p.page.zone z.number && is_under (map.get z.placement p.page.number) p.serial) _ own).1

-- the journal tells which page has the serial
pub own_page : (z : ZoneState) → IsValidZone z → (p : IsolatedPage) → is_own z p ≡ true → page_of z.records p.serial ≡ Some p.page.number
own_page z law p own = ((law.agrees.under_way p.page.number p.serial).0 (own_under z p own)).1

-- a copy stays one of the zone where the placement and the words of its page stay
own_kept : (z next : ZoneState) (p : IsolatedPage) → next.number ≡ z.number → next.page_size ≡ z.page_size → next.lent_pages ≡ z.lent_pages → map.get next.placement p.page.number ≡ map.get z.placement p.page.number → ((w : ℕ) → last next.records p.page.number w ≡ last z.records p.page.number w) → IsOwnCopy z p → IsOwnCopy next p
own_kept z next p number size lent placement words own = record {
  own = (λ i. nat_eq p.page.zone (number i) && is_under (placement i) p.serial && not (set.contains (lent i) p.page.number)) ∙ own.own;
  same = own.same ∙ sym (λ i. each (λ w. words w i) (range_with_len 0 (size i)));
}

pub own_begun : (z : ZoneState) (p : IsolatedPage) → IsOwnCopy z p → IsOwnCopy (round_begun z) p
own_begun z p own = record { own = own.own; same = own.same }

pub own_loaded : (z : ZoneState) (client : ℕ) (address : Address) (word : ℕ) (p : IsolatedPage) → IsOwnCopy z p → IsOwnCopy (loaded z client address word) p
own_loaded z client address word p own = record { own = own.own; same = own.same }

-- a page that is nowhere or in a frame isn't a moving one
apart_from : (z : ZoneState) (page : ℕ) (o : Option Placement) (p : IsolatedPage) → map.get z.placement page ≡ o → is_under o p.serial ≡ false → is_own z p ≡ true → p.page.number ≢ page
apart_from z page o p at off own same = both_ways _ (ap (λ x. is_under x p.serial) (ap (map.get z.placement) same ∙ at) ∙ off) (own_under z p own)

-- two serials are of two pages
serials_apart : (z : ZoneState) (p q : IsolatedPage) → is_own z p ≡ true → is_own z q ≡ true → q.serial ≢ p.serial → p.page.number ≢ q.page.number
serials_apart z p q own_p own_q ne same = ne (one_serial _ q.serial p.serial (own_under z q own_q) (ap (λ n. is_under (map.get z.placement n) p.serial) (sym same) ∙ own_under z p own_p))

pub own_unmapped : (z : ZoneState) (client : ℕ) (address : Address) (frame : ℕ) → placement_at z address ≡ Some (At frame) → (p : IsolatedPage) → IsOwnCopy z p → IsOwnCopy (unmapped z client address) p
own_unmapped z client address frame at p own = by_last (is_last z address) where
  page : (q : ℕ) × (page_at z.records address ≡ Some q) × (map.get z.placement q ≡ Some (At frame))
  page = page_named z address (At frame) at

  named : unwrap_or (page_at z.records address) 0 ≡ page.0
  named = ap (λ (o : Option ℕ). unwrap_or o 0) page.1

  by_last : (b : Bool) → IsOwnCopy (if b then without_page (noted z (Unmap client address)) (unwrap_or (page_at z.records address) 0) else noted z (Unmap client address)) p
  by_last true = own_kept z _ p refl refl refl (get_remove_other z.placement _ p.page.number (λ same. apart_from z page.0 _ p page.2 refl own.own (same ∙ named))) (λ w. refl) own
  by_last false = record { own = own.own; same = own.same }

pub own_stored : (z : ZoneState) (client : ℕ) (address : Address) (word value frame : ℕ) → placement_at z address ≡ Some (At frame) → (p : IsolatedPage) → IsOwnCopy z p → IsOwnCopy (stored z client address word value) p
own_stored z client address word value frame at p own =
    let page = page_named z address (At frame) at in
    let unnamed : names z.records address p.page.number ≡ false =
    ap (λ (o : Option ℕ). is_page o p.page.number) page.1 ∙ ne_eqb page.0 p.page.number (λ same. apart_from z page.0 _ p page.2 refl own.own (sym same)) in
    own_kept z (stored z client address word value) p refl refl refl refl (λ w. ap (λ b. if b && nat_eq word w then value else last z.records p.page.number w) unnamed) own

pub own_placed : (z : ZoneState) (client : ℕ) (address : Address) (unmovable : Bool) (page frame : ℕ) → map.get z.placement page ≡ None → (p : IsolatedPage) → IsOwnCopy z p → IsOwnCopy (placed z client address unmovable page frame) p
own_placed z client address unmovable page frame unused p own =
    let ne = apart_from z page _ p unused refl own.own in
    own_kept z (placed z client address unmovable page frame) p refl refl refl
    (get_insert_other z.placement page p.page.number (At frame) ne)
    (λ w. skipped (nat_eq page p.page.number) 0 (last z.records p.page.number w) (ne_eqb page p.page.number (λ same. ne (sym same))))
    own

-- a copy stays one of the zone when another page is isolated
pub own_isolated : (z : ZoneState) (pair : Pair) (frame : ℕ) → map.get z.placement pair.page ≡ Some (At frame) → (p : IsolatedPage) → IsOwnCopy z p → IsOwnCopy (isolated_next z pair) p
own_isolated z pair frame at p own =
    own_kept z (isolated_next z pair) p refl refl refl
    (get_insert_other z.placement pair.page p.page.number _ (apart_from z pair.page _ p at refl own.own))
    (λ w. refl) own

-- the page that is isolated is one of the zone, with its words
pub own_fresh : (z : ZoneState) (pair : Pair) → set.contains z.lent_pages pair.page ≡ false → IsOwnCopy (isolated_next z pair) (record { serial = isolated z.records; page = page_now z pair.page })
own_fresh z pair here = record {
  own = and_from _ (not (set.contains z.lent_pages pair.page))
      (and_from (nat_eq z.number z.number) _ (eq-eqb z.number z.number refl)
      (ap (λ (o : Option Placement). is_under o (isolated z.records)) (get_insert_same z.placement pair.page pair.page _ refl) ∙ eq-eqb (isolated z.records) (isolated z.records) refl))
      (ap not here);
  same = refl;
}

-- a copy stays one of the zone when another page's move ends
own_ended : (z : ZoneState) (entry : Record) (q : IsolatedPage) (frame : ℕ) (p : IsolatedPage) → is_own z q ≡ true → q.serial ≢ p.serial → ((w : ℕ) → last (entry ∷ z.records) p.page.number w ≡ last z.records p.page.number w) → IsOwnCopy z p → IsOwnCopy (relocated z entry q.page.number (At frame)) p
own_ended z entry q frame p own_q ne words own =
    own_kept z (relocated z entry q.page.number (At frame)) p refl refl refl
    (get_insert_other z.placement q.page.number p.page.number (At frame) (serials_apart z p q own.own own_q ne))
    words own

pub own_put_back : (z : ZoneState) (cause : Cause) (q p : IsolatedPage) → is_own z q ≡ true → q.serial ≢ p.serial → IsOwnCopy z p → IsOwnCopy (put_back_to_source z q.serial q.page.number cause) p
own_put_back z cause q p own_q ne own = own_ended z (Back cause q.serial) q _ p own_q ne (λ w. refl) own

pub own_committed : (z : ZoneState) (q p : IsolatedPage) → is_own z q ≡ true → q.serial ≢ p.serial → IsOwnCopy z p → IsOwnCopy (committed z q.serial q.page.number) p
own_committed z q p own_q ne own = by_pins (nat_eq (pins z.records q.page.number) 0) where
  by_pins : (b : Bool) → IsOwnCopy (if b then moved_to_target z q.serial q.page.number else put_back_to_source z q.serial q.page.number Pinned) p
  by_pins true = own_ended z (Moved q.serial) q _ p own_q ne (λ w. refl) own
  by_pins false = own_put_back z Pinned q p own_q ne own
