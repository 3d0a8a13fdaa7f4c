-- A round that is closed, and a world that is split and joined.
use Rattle.std.proofs.Common.{◌≡◌, ◌≢◌, ℕ, zero, suc, ◌+◌, ◌*◌, ◌/◌, ◌<◌, ◌≤◌, Bool, true, false, not, List, [], ◌∷◌, length, refl, sym, ap, subst, ◌∙◌, arith}
use Rattle.std.specs.Prelude.{Option, Some, None, map as each, replicate, slice_get, unwrap_or, nat_eq, nat_lt, if◌then◌else◌}
use Rattle.std.specs.List.{list_all}
use Rattle.std.proofs.lemmas.Bool.{and_parts, both_ways, eqb-true, ltb-false}
use Rattle.std.proofs.lemmas.List.{length-map}
use Rattle.frame_core.specs.declared.record.Cause.TheVariants.{NotCopied}
use Rattle.frame_core.specs.Moves.{out, is_out, page_of}
use Rattle.frame_core.proofs.OnTheWay.{out_empty, none_out}
use Rattle.frame_core.specs.Page.{IsolatedPage}
use Rattle.frame_core.specs.Serials.{serials_of}
use Rattle.state_core.specs.declared.error.ZoneError.TheVariants.{Missing, Out}
use Rattle.machine_core.specs.declared.hands.Held.TheVariants.{Nothing, Page, Copy}
use Rattle.machine_core.specs.Carried.{InHand, hand_as, AreOwn, world_of, IsCarried, IsRest}
use Rattle.machine_core.specs.Hands.{is_nothing}
use Rattle.state_core.specs.Valid.{IsValidZone}
use Rattle.state_core.specs.Ending.{IsOwnCopy, put_back_to_source}
use Rattle.zone_core.specs.Seats.{ScanSeat, EndSeat, audit_refusal}
use Rattle.machine_core.specs.World.{WorldState, IsOrderly, IsRising, all_put_back, shut, shut_step}
use Rattle.state_core.specs.ZoneState.{ZoneState}
use Rattle.state_core.proofs.Carried.{own_put_back}
use Rattle.state_core.proofs.Facts.{taken, skipped}
use Rattle.machine_core.proofs.MovesEnded.{orderly_shut}
use Rattle.machine_core.proofs.Carrying.{nothing_is, waits_at}
use Rattle.machine_core.proofs.Orderly.{none_waits, orderly_at_rest}
use Rattle.machine_core.proofs.Standing.{waits_out}

-- A closed round
all_empty : (held : List InHand) → list_all is_nothing held ≡ true → (i : ℕ) (h : InHand) → slice_get held i ≡ Some h → h ≡ Nothing
all_empty [] e i h is = cc
all_empty (x ∷ held) e zero h is = let same : x ≡ h = cc in sym same ∙ nothing_is x (and_parts (is_nothing x) _ e).0
all_empty (x ∷ held) e (suc i) h is = all_empty held (and_parts (is_nothing x) _ e).1 i h is

-- a world that carries no page
carried_none : (zone : ZoneState) (scan : ScanSeat) (ends : EndSeat) (held : List InHand) (capacity : ℕ) → IsOrderly (world_of zone scan ends false [] held) → list_all is_nothing held ≡ true → capacity ≡ 256 * zone.blocks → IsCarried zone scan ends false [] held capacity
carried_none zone scan ends held capacity orderly empty room = record {
  orderly = orderly;
  waiting = λ i p e. cc;
  pages = λ i p e. let none = all_empty held empty i (Page p) e in cc;
  copies = λ i p e. let none = all_empty held empty i (Copy p) e in cc;
  room = room;
}

module _ (zone : ZoneState) (scan : ScanSeat) (ends : EndSeat) (law : IsValidZone zone) (whole : ends.parts ≡ 64) (none : (serial : ℕ) → is_out zone.records serial ≡ false) where
  pub carried_closed : (capacity : ℕ) → capacity ≡ 256 * zone.blocks → IsCarried zone scan ends false [] (Nothing ∷ Nothing ∷ Nothing ∷ Nothing ∷ []) capacity
  carried_closed capacity room = carried_none zone scan ends _ capacity (orderly_at_rest zone scan ends (replicate 4 Nothing) law whole refl refl none) refl room

-- no page waits where no round is open
no_list : (list : List IsolatedPage) → length (serials_of list) ≡ 0 → list ≡ []
no_list [] none = refl
no_list (p ∷ list) none = absurd (omega arith)

pub closed_waits : (zone : ZoneState) (scan : ScanSeat) (ends : EndSeat) (is_open : Bool) (list : List IsolatedPage) (held : List InHand) → IsOrderly (world_of zone scan ends is_open list held) → is_open ≡ false → list ≡ []
closed_waits zone scan ends is_open list held orderly closed =
    no_list list (none_waits (serials_of list) (λ serial there. both_ways _ (orderly.closed closed serial) (waits_out (world_of zone scan ends is_open list held) orderly serial there)))

-- Closing a round
pub record IsClosing (zone : ZoneState) (list : List IsolatedPage) (count : ℕ) (first : ZoneState) (all : List IsolatedPage) : Type 0 where
  pub own : AreOwn zone list
  pub rising : IsRising (serials_of list)
  pub ahead : all_put_back zone (serials_of list) ≡ all_put_back first (serials_of all)
  pub counted : count + length list ≡ length all
  pub blocks : zone.blocks ≡ first.blocks

pub closing_first : (zone : ZoneState) (list : List IsolatedPage) → AreOwn zone list → IsRising (serials_of list) → IsClosing zone list 0 zone list
closing_first zone list own rising = record {
  own = own;
  rising = rising;
  ahead = refl;
  counted = omega arith;
  blocks = refl;
}

pub closing_next : (zone : ZoneState) (p : IsolatedPage) (list : List IsolatedPage) (count : ℕ) (first : ZoneState) (all : List IsolatedPage) → IsClosing zone (p ∷ list) count first all → page_of zone.records p.serial ≡ Some p.page.number → IsClosing (all_put_back zone (p.serial ∷ [])) list (count + 1) first all
closing_next zone p list count first all was page = record {
  own = λ i q e. subst (λ (v : ZoneState). IsOwnCopy v q) (sym put_is)
      (own_put_back zone NotCopied p q (was.own zero p refl).own (rises i q e) (was.own (suc i) q e));
  rising = was.rising.1;
  ahead = was.ahead;
  counted = omega (arith, was.counted);
  blocks = was.blocks;
} where
  put_is : all_put_back zone (p.serial ∷ []) ≡ put_back_to_source zone p.serial p.page.number NotCopied
  put_is = ap (λ (o : Option ℕ). put_back_to_source zone p.serial (unwrap_or o 0) NotCopied) page

  rises : (i : ℕ) (q : IsolatedPage) → slice_get list i ≡ Some q → p.serial ≢ q.serial
  rises i q e same = let less : p.serial < q.serial = was.rising.0 q.serial (waits_at list i q e) in absurd (omega arith)

empty_seen : (held : List InHand) → list_all is_nothing (each hand_as held) ≡ list_all is_nothing held
empty_seen [] = refl
empty_seen (Nothing ∷ held) = empty_seen held
empty_seen (Page p ∷ held) = refl
empty_seen (Copy p ∷ held) = refl

pub not_shut : (zone : ZoneState) (scan : ScanSeat) (ends : EndSeat) (is_open : Bool) (list : List IsolatedPage) (held : List InHand) → list_all is_nothing held ≡ false → shut_step (world_of zone scan ends is_open list held) ≡ None
not_shut zone scan ends is_open list held full =
    skipped (list_all is_nothing (each hand_as held)) (Some (length (serials_of list), shut (world_of zone scan ends is_open list held))) None (empty_seen held ∙ full)

-- the list of a world has at most 16,777,216 pages
pub short_list : (zone : ZoneState) (scan : ScanSeat) (ends : EndSeat) (is_open : Bool) (list : List IsolatedPage) (held : List InHand) (capacity : ℕ) → IsCarried zone scan ends is_open list held capacity → length list ≤ 16777216
short_list zone scan ends is_open list held capacity was =
    omega (arith, was.orderly.few.1, was.orderly.valid.size.1, length-map list (λ (p : IsolatedPage). p.serial))

module _ (zone next : ZoneState) (scan : ScanSeat) (ends : EndSeat) (is_open : Bool) (list : List IsolatedPage) (held : List InHand) (capacity count : ℕ) (was : IsCarried zone scan ends is_open list held capacity) (empty : list_all is_nothing held ≡ true) (done : next ≡ all_put_back zone (serials_of list)) (blocks : next.blocks ≡ zone.blocks) (counted : count ≡ length list) where
  abbrev open_world : WorldState
  open_world = world_of zone scan ends is_open list held

  abbrev ends_shut : EndSeat
  ends_shut = record ends { back = ends.back + count }

  pub step_shut : shut_step open_world ≡ Some (count, world_of next scan ends_shut false [] held)
  step_shut =
      taken (list_all is_nothing (each hand_as held)) (Some (length (serials_of list), shut open_world)) None (empty_seen held ∙ empty)
      ∙ (λ i. Some (number i, world_of (back i) scan (record ends { back = ends.back + number i }) false [] held)) where
        back : all_put_back zone (serials_of list) ≡ next
        back = sym done

        number : length (serials_of list) ≡ count
        number = length-map list (λ (p : IsolatedPage). p.serial) ∙ sym counted

  pub carried_shut : IsCarried next scan ends_shut false [] held capacity
  carried_shut = carried_none next scan ends_shut held capacity (orderly_shut open_world count (world_of next scan ends_shut false [] held) was.orderly step_shut) empty (was.room ∙ ap (λ n. 256 * n) (sym blocks))

-- A world that is joined
audit_then : (a b : Bool) → (if not a then Some Missing else if b then Some Out else None) ≡ None → (a ≡ true) × (b ≡ false)
audit_then a b e = (grind arith, grind arith)

pub carried_joined : (zone : ZoneState) (scan : ScanSeat) (ends : EndSeat) (list : List IsolatedPage) (held : List InHand) (capacity : ℕ) → IsValidZone zone → audit_refusal zone ends ≡ None → IsRest list capacity → capacity / 256 ≡ zone.blocks → held ≡ Nothing ∷ Nothing ∷ Nothing ∷ Nothing ∷ [] → IsCarried zone scan ends false list held capacity
carried_joined zone scan ends list held capacity law audit rest blocks empty =
    let passed = audit_then (nat_eq ends.parts 64) (nat_lt 0 (length (out zone.records))) audit in
    let gone = ltb-false 0 (length (out zone.records)) passed.1 in
    rw (rest.none, empty)
    (carried_closed zone scan ends law (eqb-true ends.parts 64 passed.0) (out_empty zone.records (omega arith)) capacity (omega (arith, rest.room, blocks)))

-- where no round is open, the zone and its seats pass an audit
pub audit_left : (zone : ZoneState) (scan : ScanSeat) (ends : EndSeat) (is_open : Bool) (list : List IsolatedPage) (held : List InHand) (capacity : ℕ) → IsCarried zone scan ends is_open list held capacity → is_open ≡ false → audit_refusal zone ends ≡ None
audit_left zone scan ends is_open list held capacity was closed =
    ap (λ (n : ℕ). if not (nat_eq n 64) then Some Missing else if nat_lt 0 (length (out zone.records)) then Some Out else None) was.orderly.whole
    ∙ ap (λ (serials : List ℕ). if nat_lt 0 (length serials) then Some Out else None) (none_out zone.records (was.orderly.closed closed))

-- where no round is open no page waits
pub rest_left : (zone : ZoneState) (scan : ScanSeat) (ends : EndSeat) (is_open : Bool) (list : List IsolatedPage) (held : List InHand) (capacity : ℕ) → IsCarried zone scan ends is_open list held capacity → is_open ≡ false → IsRest list capacity
rest_left zone scan ends is_open list held capacity was closed = record {
  none = closed_waits zone scan ends is_open list held was.orderly closed;
  room = omega (arith, was.room);
  few = omega (arith, was.room, was.orderly.valid.size.1);
}
