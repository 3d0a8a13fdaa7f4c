-- Ends of moves keep a world orderly.
use Rattle.std.proofs.Common.{◌≡◌, ◌≢◌, ℕ, ◌-◌, ◌<◌, ◌≤◌, Bool, true, false, not, List, [], ◌∷◌, length, inl, inr, refl, sym, ap, subst, ◌∙◌, arith}
use Rattle.std.specs.Prelude.{Option, Some, None, slice_set, unwrap_or, nat_eq, ◌||◌, ◌&&◌, if◌then◌else◌}
use Rattle.std.specs.FinMap as map
use Rattle.std.specs.FinSet as set
use Rattle.std.specs.List.{list_any, list_all}
use Rattle.std.specs.Option.{option_and_then}
use Rattle.std.proofs.lemmas.Bool.{eq-eqb, eqb-true, ne_eqb, or_left, or_right, or_from, and_parts, and_from, and_left, not-true, not_from_false, false_from_ne_true, both_ways}
use Rattle.std.proofs.lemmas.Bool.Decides.{eqb_tells}
use Rattle.std.proofs.lemmas.List.{length-set}
use Rattle.std.proofs.lemmas.Option.{some_pair_parts}
use Rattle.frame_core.proofs.OnTheWay.{any_without}
use Rattle.frame_core.specs.declared.record.Cause.TheVariants.{Pinned, NotCopied}
use Rattle.frame_core.specs.declared.record.Record.{Record}
use Rattle.frame_core.specs.declared.record.Record.TheVariants.{Isolate, Moved, Back}
use Rattle.frame_core.specs.History.{pins}
use Rattle.frame_core.specs.Moves.{out, is_out, page_of}
use Rattle.machine_core.specs.declared.finished.Finished.{Finished}
use Rattle.machine_core.specs.declared.hands.Held.{Held}
use Rattle.machine_core.specs.declared.hands.Held.TheVariants.{Nothing}
use Rattle.state_core.specs.declared.moves.Ended.{Ended}
use Rattle.state_core.specs.declared.placement.Placement.{Placement}
use Rattle.state_core.specs.declared.placement.Placement.TheVariants.{At, Moving}
use Rattle.state_core.specs.Valid.{IsValidZone, is_under}
use Rattle.state_core.specs.Ending.{moved_to_target, put_back_to_source}
use Rattle.machine_core.specs.Hands.{held_at, is_nothing, copy_held, serial_in}
use Rattle.machine_core.specs.World.{WorldState, IsOrderly, IsRising, with_hand, waits, finished_as, finished_in, finished_by, finish_step, all_put_back, shut, shut_step}
use Rattle.zone_core.specs.Seats.{EndSeat, seat_ended}
use Rattle.state_core.specs.ZoneState.{ZoneState}
use Rattle.state_core.proofs.Settled.{valid_moved, valid_put_back}
use Rattle.machine_core.proofs.Orderly.{lent_alike, orderly_at_rest}
use Rattle.machine_core.proofs.Standing.{holds_at, none_held, Stands, stands, stands_so, set_cases, stands_out, waits_out, in_hand_out}

-- a serial that is out has the page that was isolated under it
out_page : (records : List Record) (s : ℕ) → is_out records s ≡ true → (page : ℕ) × (page_of records s ≡ Some page)
out_page [] s e = cc
out_page (Isolate page serial ∷ older) s e = elim (eqb_tells serial s) [
  | inl same ↦ (page, ap (λ (b : Bool). if b then Some page else page_of older s) same.0)
  | inr other ↦
      (let apart : nat_eq s serial ≡ false = ne_eqb s serial (λ same. other.1 (sym same)) in
      let before = out_page older s (sym (ap (λ (b : Bool). b || is_out older s) apart) ∙ e) in
      (before.0, ap (λ (b : Bool). if b then Some page else page_of older s) other.0 ∙ before.1))
]
out_page (Moved serial ∷ older) s e = out_page older s (and_parts (is_out older s) _ (sym (any_without serial s (out older)) ∙ e)).0
out_page (Back cause serial ∷ older) s e = out_page older s (and_parts (is_out older s) _ (sym (any_without serial s (out older)) ∙ e)).0
out_page (_ ∷ older) s e = out_page older s e

-- a page whose placement has a serial is moving
moving_under : (o : Option Placement) (serial : ℕ) → is_under o serial ≡ true → (source target : ℕ) × (o ≡ Some (Moving serial source target))
moving_under None serial e = cc
moving_under (Some (At frame)) serial e = cc
moving_under (Some (Moving s source target)) serial e = (source, target, ap (λ (n : ℕ). Some (Moving n source target)) (eqb-true s serial e))

abbrev pub page_under : ZoneState → ℕ → ℕ
page_under z serial = unwrap_or (page_of z.records serial) 0

-- the page of a serial that is out is moving under it
pub on_its_way : (z : ZoneState) → IsValidZone z → (serial : ℕ) → is_out z.records serial ≡ true → (source target : ℕ) × (map.get z.placement (page_under z serial) ≡ Some (Moving serial source target))
on_its_way z law serial e =
    let page = out_page z.records serial e in
    let named : page_under z serial ≡ page.0 = ap (λ (o : Option ℕ). unwrap_or o 0) page.1 in
    let way = moving_under (map.get z.placement page.0) serial ((law.agrees.under_way page.0 serial).1 (e, page.1)) in
    (way.0, way.1, ap (map.get z.placement) named ∙ way.2)

-- a zone in which the move of one serial ended
record IsEnded (old new : ZoneState) (serial : ℕ) : Type 0 where
  valid : IsValidZone new
  gone : (s : ℕ) → is_out new.records s ≡ (is_out old.records s && not (nat_eq s serial))
  migrate : new.migrate ≡ old.migrate
  free : new.free ≡ old.free
  blocks : new.blocks ≡ old.blocks
  pages : (s : ℕ) → page_of new.records s ≡ page_of old.records s
  lent : new.lent_pages ≡ old.lent_pages

finished_ended : (z : ZoneState) → IsValidZone z → (serial : ℕ) → set.contains z.lent_pages (page_under z serial) ≡ false → is_out z.records serial ≡ true → IsEnded z (finished_in z serial) serial
finished_ended z law serial here e = by_pins (nat_eq (pins z.records (page_under z serial)) 0) refl where
  way : (source target : ℕ) × (map.get z.placement (page_under z serial) ≡ Some (Moving serial source target))
  way = on_its_way z law serial e

  by_pins : (b : Bool) → nat_eq (pins z.records (page_under z serial)) 0 ≡ b → IsEnded z (if b then moved_to_target z serial (page_under z serial) else put_back_to_source z serial (page_under z serial) Pinned) serial
  by_pins true none = record {
    valid = valid_moved z serial (page_under z serial) way.0 way.1 law way.2 here (eqb-true _ 0 none);
    gone = λ s. any_without serial s (out z.records);
    migrate = refl;
    free = refl;
    blocks = refl;
    pages = λ s. refl;
    lent = refl;
  }
  by_pins false some =
      let ne : pins z.records (page_under z serial) ≢ 0 = λ is. both_ways _ some (eq-eqb _ 0 is) in
      record {
        valid = valid_put_back z serial (page_under z serial) way.0 way.1 Pinned law way.2 here (omega arith);
        gone = λ s. any_without serial s (out z.records);
        migrate = refl;
        free = refl;
        blocks = refl;
        pages = λ s. refl;
        lent = refl;
      }

copy_serial : (serial : ℕ) (hand : Held ℕ ℕ) → copy_held hand ≡ Some serial → serial_in hand ≡ Some serial
copy_serial serial hand e = grind arith

-- hand k brings its copy to the zone
module _ (w : WorldState) (k serial : ℕ) (low : 0 < k) (high : k ≤ 4) (o : IsOrderly w) (copy : copy_held (held_at w.hands k) ≡ Some serial) (zone : ZoneState) (ended : IsEnded w.zone zone serial) (ends : EndSeat) (whole : ends.parts ≡ 64) where
  abbrev hands_left : List (Held ℕ ℕ)
  hands_left = slice_set w.hands (k - 1) Nothing

  has_copy : serial_in (held_at w.hands k) ≡ Some serial
  has_copy = copy_serial serial (held_at w.hands k) copy

  -- each other hand has what it had
  has_left : (j s : ℕ) → 0 < j → serial_in (held_at hands_left j) ≡ Some s → (j ≢ k) × (serial_in (held_at w.hands j) ≡ Some s)
  has_left j s some e = elim (set_cases w.hands j k Nothing o.four some low high) [
    | inl here ↦ (let bad : None ≡ Some s = sym (ap serial_in here.1) ∙ e in cc)
    | inr there ↦ (there.0, sym (ap serial_in there.1) ∙ e)
  ]

  kept_in_hand : (j s : ℕ) → 0 < j → s ≢ serial → serial_in (held_at w.hands j) ≡ Some s → serial_in (held_at hands_left j) ≡ Some s
  kept_in_hand j s some apart e = elim (set_cases w.hands j k Nothing o.four some low high) [
    | inl here ↦ (let both : Some serial ≡ Some s = sym (ap (λ (i : ℕ). serial_in (held_at w.hands i)) here.0 ∙ has_copy) ∙ e in absurd (apart (cc)))
    | inr there ↦ ap serial_in there.1 ∙ e
  ]

  left_differs : (s : ℕ) → Stands w.waiting hands_left s → s ≢ serial
  left_differs s (inl there) same = both_ways _ (o.one_place k serial low has_copy) (sym (ap (waits w) same) ∙ there)
  left_differs s (inr there) same =
      let left = has_left there.0 s there.1 there.2 in
      left.0 (o.one_hand there.0 k serial (left.1 ∙ ap Some same) has_copy there.1 low)

  left_stood : (s : ℕ) → Stands w.waiting hands_left s → Stands w.waiting w.hands s
  left_stood s (inl there) = inl there
  left_stood s (inr there) = inr (there.0, there.1, (has_left there.0 s there.1 there.2).1)

  left_stands : (s : ℕ) → s ≢ serial → Stands w.waiting w.hands s → Stands w.waiting hands_left s
  left_stands s apart (inl there) = inl there
  left_stands s apart (inr there) = inr (there.0, there.1, kept_in_hand there.0 s there.1 apart there.2)

  was_out : (s : ℕ) → is_out zone.records s ≡ true → (is_out w.zone.records s ≡ true) × (s ≢ serial)
  was_out s e =
      let parts = and_parts (is_out w.zone.records s) _ (sym (ended.gone s) ∙ e) in
      (parts.0, λ same. both_ways _ (not-true _ parts.1) (eq-eqb s serial same))

  still_out : (s : ℕ) → s ≢ serial → is_out w.zone.records s ≡ true → is_out zone.records s ≡ true
  still_out s apart e = ended.gone s ∙ and_from _ _ e (not_from_false _ (ne_eqb s serial apart))

  orderly_with_end : IsOrderly (record (with_hand w k Nothing) { zone = zone; ends = ends })
  orderly_with_end = record {
    valid = ended.valid;
    whole = whole;
    four = length-set w.hands (k - 1) Nothing ∙ o.four;
    rising = o.rising;
    out = λ s. (
      λ h. (let was = was_out s h in stands_so w.waiting hands_left s (left_stands s was.1 (stands_out w o s was.0))),
      λ h. (let there : Stands w.waiting hands_left s = stands w.waiting hands_left s h in
          still_out s (left_differs s there) ((o.out s).1 (stands_so w.waiting w.hands s (left_stood s there)))),
    );
    one_hand = λ i j s e f some_i some_j. o.one_hand i j s (has_left i s some_i e).1 (has_left j s some_j f).1 some_i some_j;
    one_place = λ j s some e. o.one_place j s some (has_left j s some e).1;
    here = λ s h. lent_alike w.zone zone s (ended.pages s) ended.lent ∙ o.here s (was_out s h).0;
    closed = λ e s. ended.gone s ∙ and_left _ _ (o.closed e s);
    few = (omega (arith, o.few.0, ended.migrate), omega (arith, o.few.1, ended.free, ended.blocks));
  }

parts_ended : (seat : EndSeat) (e : Ended) → (seat_ended seat e).parts ≡ seat.parts
parts_ended seat e = grind arith

pub orderly_finished : (w : WorldState) (k : ℕ) (finished : Finished) (after : WorldState) → 0 < k → k ≤ 4 → IsOrderly w → finish_step w k ≡ Some (finished, after) → IsOrderly after
orderly_finished w k finished after low high o e = by_copy (copy_held (held_at w.hands k)) refl e where
  by_copy : (p : Option ℕ) → copy_held (held_at w.hands k) ≡ p → option_and_then {U = Finished × WorldState} (λ serial. Some (finished_as w.zone serial, finished_by w k serial)) p ≡ Some (finished, after) → IsOrderly after
  by_copy None is e = cc
  by_copy (Some serial) is e =
      let out_now = in_hand_out w o k serial low (copy_serial serial (held_at w.hands k) is) in
      subst IsOrderly (some_pair_parts _ finished _ after e).1
      (orderly_with_end w k serial low high o is (finished_in w.zone serial) (finished_ended w.zone o.valid serial (o.here serial out_now) out_now)
      (seat_ended w.ends (finished_as w.zone serial).ended) (parts_ended w.ends (finished_as w.zone serial).ended ∙ o.whole))

-- a zone in which the moves of some serials ended
record AreEnded (old new : ZoneState) (serials : List ℕ) : Type 0 where
  valid : IsValidZone new
  gone : (s : ℕ) → is_out new.records s ≡ true → (is_out old.records s ≡ true) × (list_any (nat_eq s) serials ≡ false)

all_ended : (serials : List ℕ) (z : ZoneState) → IsValidZone z → ((s : ℕ) → list_any (nat_eq s) serials ≡ true → set.contains z.lent_pages (page_under z s) ≡ false) → IsRising serials → ((s : ℕ) → list_any (nat_eq s) serials ≡ true → is_out z.records s ≡ true) → AreEnded z (all_put_back z serials) serials
all_ended [] z law here rising are_out = record { valid = law; gone = λ s e. (e, refl) }
all_ended (serial ∷ more) z law here rising are_out =
    let first = or_left (nat_eq serial serial) _ (eq-eqb serial serial refl) in
    let way = on_its_way z law serial (are_out serial first) in
    let next : ZoneState = put_back_to_source z serial (page_under z serial) NotCopied in
    let rest : AreEnded next (all_put_back next more) more =
    all_ended more next (valid_put_back z serial (page_under z serial) way.0 way.1 NotCopied law way.2 (here serial first) tt) (λ s h. here s (or_right (nat_eq s serial) _ h)) rising.1
    (λ s h. (let above : serial < s = rising.0 s h in
    any_without serial s (out z.records) ∙ and_from _ _ (are_out s (or_right (nat_eq s serial) _ h)) (not_from_false _ (ne_eqb s serial (λ same. omega arith))))) in
    record {
      valid = rest.valid;
      gone = λ s e. (let later = rest.gone s e in
          let parts = and_parts (is_out z.records s) _ (sym (any_without serial s (out z.records)) ∙ later.0) in
          (parts.0, or_from (nat_eq s serial) _ (not-true _ parts.1) later.1));
    }

module _ (w : WorldState) (o : IsOrderly w) (empty : list_all is_nothing w.hands ≡ true) where
  abbrev zone_shut : ZoneState
  zone_shut = all_put_back w.zone w.waiting

  shut_ended : AreEnded w.zone zone_shut w.waiting
  shut_ended = all_ended w.waiting w.zone o.valid (λ s h. o.here s (waits_out w o s h)) o.rising (waits_out w o)

  none_left_out : (s : ℕ) → is_out zone_shut.records s ≡ true → ⊥
  none_left_out s e =
      let gone = shut_ended.gone s e in
      elim (stands_out w o s gone.0) [ inl there ↦ both_ways _ gone.1 there | inr there ↦ both_ways _ (none_held w.hands s empty) (holds_at w.hands (there.0 - 1) s there.2) ]

  orderly_with_shut : IsOrderly (shut w)
  orderly_with_shut = orderly_at_rest zone_shut w.scan _ w.hands shut_ended.valid o.whole o.four empty (λ s. false_from_ne_true _ (none_left_out s))

pub orderly_shut : (w : WorldState) (n : ℕ) (after : WorldState) → IsOrderly w → shut_step w ≡ Some (n, after) → IsOrderly after
orderly_shut w n after o e = by_empty (list_all is_nothing w.hands) refl e where
  by_empty : (b : Bool) → list_all is_nothing w.hands ≡ b → if◌then◌else◌ {A = Option (ℕ × WorldState)} b (Some (length w.waiting, shut w)) None ≡ Some (n, after) → IsOrderly after
  by_empty true is e = subst IsOrderly (some_pair_parts _ n _ after e).1 (orderly_with_shut w o is)
  by_empty false is e = cc
