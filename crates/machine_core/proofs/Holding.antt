-- Hands that take, copy and finish keep what a world carries.
use Rattle.std.proofs.Common.{◌≡◌, ◌≢◌, ℕ, zero, suc, ◌+◌, ◌-◌, ◌*◌, ◌<◌, ◌≤◌, Bool, true, false, List, ◌∷◌, inl, inr, refl, sym, ap, subst, ◌∙◌, arith}
use Rattle.std.specs.Prelude.{Option, Some, None, IfNone, ◌++◌, option_to_list, map as each, slice_get, slice_set, unwrap_or, nat_eq, if◌then◌else◌}
use Rattle.std.specs.List.{list_any}
use Rattle.std.specs.Option.{option_and_then}
use Rattle.std.proofs.lemmas.List.{map-set}
use Rattle.frame_core.specs.declared.record.Cause.TheVariants.{Pinned}
use Rattle.frame_core.specs.History.{pins}
use Rattle.frame_core.specs.Page.{IsolatedPage}
use Rattle.frame_core.specs.Serials.{serials_of}
use Rattle.machine_core.specs.declared.hands.Held.{Held}
use Rattle.machine_core.specs.declared.hands.Held.TheVariants.{Nothing, Page, Copy}
use Rattle.machine_core.specs.Carried.{InHand, hand_as, world_of, IsCarried}
use Rattle.machine_core.specs.Hands.{held_at, is_nothing, page_held, copy_held, serial_in}
use Rattle.state_core.specs.Ending.{IsOwnCopy, committed, put_back_to_source, moved_to_target}
use Rattle.zone_core.specs.Seats.{ScanSeat, EndSeat, seat_ended}
use Rattle.machine_core.specs.World.{WorldState, with_hand, take_step, copy_step, finish_step, finished_as, finished_in, finished_by, taken_by}
use Rattle.state_core.specs.ZoneState.{ZoneState}
use Rattle.state_core.proofs.Carried.{own_page, own_committed}
use Rattle.machine_core.proofs.HandsTaking.{orderly_taken, orderly_copied}
use Rattle.machine_core.proofs.MovesEnded.{orderly_finished}
use Rattle.machine_core.proofs.Carrying.{seen_at, seen_some, held_after, is_page_held, is_copy_held, nothing_is, waits_at}

-- what is said where there is none, said where there is no `Some`
pub where_none : {A : Type 0} (o : Option A) (P : Type 0) → ((x : A) → o ≡ Some x → ⊥) → IfNone o P → P
where_none None P not h = h
where_none (Some x) P not h = absurd (not x refl)

-- a list that nothing left is as before
pub none_left : {A : Type 0} (o : Option A) (old new : List A) → ((x : A) → o ≡ Some x → ⊥) → old ≡ option_to_list o ++ new → old ≡ new
none_left None old new not e = e
none_left (Some x) old new not e = absurd (not x refl)

-- Taking, copying and finishing
module _ (zone : ZoneState) (scan : ScanSeat) (ends : EndSeat) (is_open : Bool) (p : IsolatedPage) (list : List IsolatedPage) (held : List InHand) (k capacity : ℕ) (low : 0 < k) (high : k ≤ 4) (nothing : is_nothing (held_at held k) ≡ true) (was : IsCarried zone scan ends is_open (p ∷ list) held capacity) where
  abbrev before : WorldState
  before = world_of zone scan ends is_open (p ∷ list) held

  abbrev hands_taken : List InHand
  hands_taken = slice_set held (k - 1) (Page p)

  hand_empty : held_at before.hands k ≡ Nothing
  hand_empty = seen_at held (k - 1) ∙ ap hand_as (nothing_is (held_at held k) nothing)

  pub step_taken : take_step before k ≡ Some (p.serial, world_of zone scan ends is_open list hands_taken)
  step_taken =
      ap (λ (h : Held ℕ ℕ). taken_by before k h (p.serial ∷ serials_of list)) hand_empty
      ∙ ap (λ (hs : List (Held ℕ ℕ)). Some (p.serial, record { zone = zone; scan = scan; ends = ends; is_open = is_open; waiting = serials_of list; hands = hs })) (sym (map-set hand_as held (k - 1) (Page p)))

  pub carried_taken : IsCarried zone scan ends is_open list hands_taken capacity
  carried_taken = record {
    orderly = orderly_taken before k p.serial (world_of zone scan ends is_open list hands_taken) low high was.orderly step_taken;
    waiting = λ i q e. was.waiting (suc i) q e;
    pages = λ i q e. elim (held_after held (k - 1) i (Page p) (Page q) e) [
      | inl here ↦ (let same : p ≡ q = cc in subst (IsOwnCopy zone) same (was.waiting zero p refl))
      | inr there ↦ was.pages i q there.1
    ];
    copies = λ i q e. elim (held_after held (k - 1) i (Page p) (Copy q) e) [
      | inl here ↦ cc
      | inr there ↦ was.copies i q there.1
    ];
    room = was.room;
  }

module _ (zone : ZoneState) (scan : ScanSeat) (ends : EndSeat) (is_open : Bool) (p : IsolatedPage) (list : List IsolatedPage) (held : List InHand) (k capacity : ℕ) (low : 0 < k) (high : k ≤ 4) (page : page_held (held_at held k) ≡ Some p) (was : IsCarried zone scan ends is_open list held capacity) where
  abbrev uncopied : WorldState
  uncopied = world_of zone scan ends is_open list held

  abbrev hands_copied : List InHand
  hands_copied = slice_set held (k - 1) (Copy p)

  page_at_hand : slice_get held (k - 1) ≡ Some (Page p)
  page_at_hand = is_page_held (slice_get held (k - 1)) p page

  pub step_copied : copy_step uncopied k ≡ Some (world_of zone scan ends is_open list hands_copied)
  step_copied =
      ap (λ (h : Held ℕ ℕ). option_and_then (λ serial. Some (with_hand uncopied k (Copy serial))) (page_held h)) (seen_some held (k - 1) (Page p) page_at_hand)
      ∙ ap (λ (hs : List (Held ℕ ℕ)). Some (record { zone = zone; scan = scan; ends = ends; is_open = is_open; waiting = serials_of list; hands = hs })) (sym (map-set hand_as held (k - 1) (Copy p)))

  pub carried_copied : IsCarried zone scan ends is_open list hands_copied capacity
  carried_copied = record {
    orderly = orderly_copied uncopied k (world_of zone scan ends is_open list hands_copied) low high was.orderly step_copied;
    waiting = was.waiting;
    pages = λ i q e. elim (held_after held (k - 1) i (Copy p) (Page q) e) [
      | inl here ↦ cc
      | inr there ↦ was.pages i q there.1
    ];
    copies = λ i q e. elim (held_after held (k - 1) i (Copy p) (Copy q) e) [
      | inl here ↦ (let same : p ≡ q = cc in subst (IsOwnCopy zone) same (was.pages (k - 1) p page_at_hand))
      | inr there ↦ was.copies i q there.1
    ];
    room = was.room;
  }

module _ (zone : ZoneState) (scan : ScanSeat) (ends : EndSeat) (is_open : Bool) (p : IsolatedPage) (list : List IsolatedPage) (held : List InHand) (k capacity : ℕ) (low : 0 < k) (high : k ≤ 4) (copy : copy_held (held_at held k) ≡ Some p) (was : IsCarried zone scan ends is_open list held capacity) where
  abbrev unfinished : WorldState
  unfinished = world_of zone scan ends is_open list held

  abbrev hands_finished : List InHand
  hands_finished = slice_set held (k - 1) Nothing

  abbrev zone_finished : ZoneState
  zone_finished = finished_in zone p.serial

  abbrev ends_finished : EndSeat
  ends_finished = seat_ended ends (finished_as zone p.serial).ended

  copy_at_hand : slice_get held (k - 1) ≡ Some (Copy p)
  copy_at_hand = is_copy_held (slice_get held (k - 1)) p copy

  pub own_in_hand : IsOwnCopy zone p
  own_in_hand = was.copies (k - 1) p copy_at_hand

  hand_copy : held_at unfinished.hands k ≡ Copy p.serial
  hand_copy = seen_some held (k - 1) (Copy p) copy_at_hand

  pub step_finished : finish_step unfinished k ≡ Some (finished_as zone p.serial, world_of zone_finished scan ends_finished is_open list hands_finished)
  step_finished =
      ap (λ (h : Held ℕ ℕ). option_and_then (λ serial. Some (finished_as zone serial, finished_by unfinished k serial)) (copy_held h)) hand_copy
      ∙ ap (λ (hs : List (Held ℕ ℕ)). Some (finished_as zone p.serial, record { zone = zone_finished; scan = scan; ends = ends_finished; is_open = is_open; waiting = serials_of list; hands = hs })) (sym (map-set hand_as held (k - 1) Nothing))

  finished_is : zone_finished ≡ committed zone p.serial p.page.number
  finished_is = ap (λ (o : Option ℕ). committed zone p.serial (unwrap_or o 0)) (own_page zone was.orderly.valid p own_in_hand.own)

  blocks_same : zone_finished.blocks ≡ zone.blocks
  blocks_same = ap (λ (v : ZoneState). v.blocks) finished_is ∙ by_pins (nat_eq (pins zone.records p.page.number) 0) where
    by_pins : (b : Bool) → (if b then moved_to_target zone p.serial p.page.number else put_back_to_source zone p.serial p.page.number Pinned).blocks ≡ zone.blocks
    by_pins true = refl
    by_pins false = refl

  own_stays : (q : IsolatedPage) → p.serial ≢ q.serial → IsOwnCopy zone q → IsOwnCopy zone_finished q
  own_stays q ne own = subst (λ (v : ZoneState). IsOwnCopy v q) (sym finished_is) (own_committed zone p q own_in_hand.own ne own)

  not_waiting : (i : ℕ) (q : IsolatedPage) → slice_get list i ≡ Some q → p.serial ≢ q.serial
  not_waiting i q e same =
      let none = was.orderly.one_place k p.serial low (ap serial_in hand_copy) in
      let one = waits_at list i q e in
      let bad : true ≡ false = sym one ∙ ap (λ (s : ℕ). list_any (nat_eq s) (serials_of list)) (sym same) ∙ none in
      cc

  in_other_hand : (i : ℕ) (h : InHand) (q : IsolatedPage) → i ≢ k - 1 → slice_get held i ≡ Some h → serial_in (hand_as h) ≡ Some q.serial → p.serial ≢ q.serial
  in_other_hand i h q other e is same =
      let place : i + 1 - 1 ≡ i = omega arith in
      let here : serial_in (held_at unfinished.hands (i + 1)) ≡ Some q.serial =
      ap (λ (n : ℕ). serial_in (unwrap_or (slice_get (each hand_as held) n) Nothing)) place ∙ ap serial_in (seen_some held i h e) ∙ is in
      let there : serial_in (held_at unfinished.hands k) ≡ Some q.serial = ap serial_in hand_copy ∙ ap Some same in
      let one : i + 1 ≡ k = was.orderly.one_hand (i + 1) k q.serial here there (omega arith) low in
      let bad : i ≡ k - 1 = omega arith in
      other bad

  pub carried_finished : IsCarried zone_finished scan ends_finished is_open list hands_finished capacity
  carried_finished = record {
    orderly = orderly_finished unfinished k (finished_as zone p.serial) (world_of zone_finished scan ends_finished is_open list hands_finished) low high was.orderly step_finished;
    waiting = λ i q e. own_stays q (not_waiting i q e) (was.waiting i q e);
    pages = λ i q e. elim (held_after held (k - 1) i Nothing (Page q) e) [
      | inl here ↦ cc
      | inr there ↦ own_stays q (in_other_hand i (Page q) q there.0 there.1 refl) (was.pages i q there.1)
    ];
    copies = λ i q e. elim (held_after held (k - 1) i Nothing (Copy q) e) [
      | inl here ↦ cc
      | inr there ↦ own_stays q (in_other_hand i (Copy q) q there.0 there.1 refl) (was.copies i q there.1)
    ];
    room = was.room ∙ ap (λ n. 256 * n) (sym blocks_same);
  }
