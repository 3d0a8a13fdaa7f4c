-- Calls of the zone, rounds and scans keep a world orderly.
use Rattle.std.proofs.Common.{◌≡◌, ◌≢◌, ap, ℕ, ◌+◌, ◌-◌, ◌<◌, ◌≤◌, Bool, true, false, List, [], ◌∷◌, ◌++◌, length, ◌⊎◌, inl, inr, refl, sym, ◌∙◌, arith}
use Rattle.std.specs.Prelude.{Option, Some, None, nat_eq, unwrap_or, ◌||◌, if◌then◌else◌}
use Rattle.std.specs.FinSet as set
use Rattle.std.specs.List.{list_all, list_any}
use Rattle.std.proofs.lemmas.Bool.{eq-eqb, eqb-true, or_cases, or_left, or_right, false_from_ne_true, both_ways, ne_eqb}
use Rattle.std.proofs.lemmas.List.{length-append}
use Rattle.std.proofs.lemmas.List.Folds.{list_any-append}
use Rattle.frame_core.proofs.OnTheWay.{out_below}
use Rattle.frame_core.specs.Moves.{isolated, is_out, page_of}
use Rattle.machine_core.specs.declared.hands.Held.{Held}
use Rattle.state_core.specs.declared.moves.Next.TheVariants as next
use Rattle.state_core.specs.declared.round.Pair.{Pair}
use Rattle.state_core.specs.Valid.{IsValidZone}
use Rattle.state_core.specs.Rounds.{round_begun}
use Rattle.state_core.specs.Isolating.{isolate_refusal, isolated_next}
use Rattle.state_core.specs.Pairs.{IsPair, next_pair}
use Rattle.machine_core.specs.Hands.{held_at, is_nothing, serial_in}
use Rattle.machine_core.specs.World.{WorldState, IsOrderly, IsRising, with_zone, round_opened, isolated_by}
use Rattle.zone_core.specs.Seats.{ScanSeat, EndSeat, seat_begun, seat_noted}
use Rattle.state_core.specs.ZoneState.{ZoneState, frame_count}
use Rattle.state_core.proofs.Pairing.{pair_found}
use Rattle.state_core.proofs.Rounds.{valid_begun}
use Rattle.state_core.proofs.Settled.{pair_here, valid_isolated}
use Rattle.machine_core.proofs.Standing.{Stands, holds_at, none_held, stands, stands_so, stands_out, waits_out, in_hand_out}

-- whether the words of the page that is moving under a serial are lent
abbrev is_lent : ZoneState → ℕ → Bool
is_lent zone serial = set.contains zone.lent_pages (unwrap_or (page_of zone.records serial) 0)

-- they are where they were, if the page has the serial that it had and the same pages are lent
pub lent_alike : (old new : ZoneState) (serial : ℕ) → page_of new.records serial ≡ page_of old.records serial → new.lent_pages ≡ old.lent_pages → is_lent new serial ≡ is_lent old serial
lent_alike old new serial pages lent i = set.contains (lent i) (unwrap_or (pages i) 0)

-- a world whose zone has the same moving pages as that of an orderly one
orderly_like : (w : WorldState) (zone : ZoneState) (scan : ScanSeat) (is_open : Bool) → IsOrderly w → IsValidZone zone → ((serial : ℕ) → is_out zone.records serial ≡ is_out w.zone.records serial) → ((serial : ℕ) → is_out zone.records serial ≡ true → is_lent zone serial ≡ false) → (is_open ≡ false → w.is_open ≡ false)
    → (length w.waiting ≤ zone.migrate) × (length w.waiting + zone.free ≤ frame_count zone) → IsOrderly (record w { zone = zone; scan = scan; is_open = is_open })
orderly_like w zone scan is_open o law same here closed few = record {
  valid = law;
  whole = o.whole;
  four = o.four;
  rising = o.rising;
  out = λ s. (λ h. (o.out s).0 (sym (same s) ∙ h), λ h. same s ∙ (o.out s).1 h);
  here = here;
  one_hand = o.one_hand;
  one_place = o.one_place;
  closed = λ e s. same s ∙ o.closed (closed e) s;
  few = few;
}

pub orderly_with_zone : (w : WorldState) (zone : ZoneState) → IsOrderly w → IsValidZone zone → ((serial : ℕ) → is_out zone.records serial ≡ is_out w.zone.records serial) → ((serial : ℕ) → page_of zone.records serial ≡ page_of w.zone.records serial) → zone.lent_pages ≡ w.zone.lent_pages → zone.migrate ≡ w.zone.migrate → zone.free ≡ w.zone.free → zone.blocks ≡ w.zone.blocks → IsOrderly (with_zone w zone)
orderly_with_zone w zone o law same pages lent migrate free blocks =
    orderly_like w zone w.scan w.is_open o law same (λ s e. lent_alike w.zone zone s (pages s) lent ∙ o.here s (sym (same s) ∙ e)) (λ e. e) (omega (arith, o.few.0, migrate), omega (arith, o.few.1, free, blocks))

-- a world in which no page is moving, where its hands are empty
pub orderly_at_rest : (zone : ZoneState) (scan : ScanSeat) (ends : EndSeat) (hands : List (Held ℕ ℕ)) → IsValidZone zone → ends.parts ≡ 64 → length hands ≡ 4 → list_all is_nothing hands ≡ true → ((serial : ℕ) → is_out zone.records serial ≡ false)
    → IsOrderly (record { zone = zone; scan = scan; ends = ends; is_open = false; waiting = []; hands = hands })
orderly_at_rest zone scan ends hands law whole four empty none = record {
  valid = law;
  whole = whole;
  four = four;
  rising = tt;
  out = λ s. (λ h. absurd (both_ways _ (none s) h), λ h. absurd (both_ways _ (none_held hands s empty) h));
  here = λ s e. absurd (both_ways _ (none s) e);
  one_hand = λ j k s a b low_j low_k. absurd (both_ways _ (none_held hands s empty) (holds_at hands (j - 1) s a));
  one_place = λ k s low e. refl;
  closed = λ e. none;
  few = (omega (arith, law.fingers.ordered.0), omega (arith, law.fingers.ordered.1));
}

pub none_waits : (serials : List ℕ) → ((s : ℕ) → list_any (nat_eq s) serials ≡ true → ⊥) → length serials ≡ 0
none_waits [] none = refl
none_waits (x ∷ serials) none = absurd (none x (or_left (nat_eq x x) _ (eq-eqb x x refl)))

-- the seat of the scanner notes something
pub orderly_noted : (w : WorldState) (seat : ScanSeat) → IsOrderly w → IsOrderly (record w { scan = seat })
orderly_noted w seat o = orderly_like w w.zone seat w.is_open o o.valid (λ s. refl) o.here (λ e. e) o.few

pub orderly_round_opened : (w : WorldState) → IsOrderly w → IsOrderly (round_opened w)
orderly_round_opened w o = by_open w.is_open refl where
  by_open : (b : Bool) → w.is_open ≡ b → IsOrderly (record w { zone = if b then w.zone else round_begun w.zone; scan = if b then w.scan else seat_begun w.scan; is_open = true })
  by_open true e = orderly_like w w.zone w.scan true o o.valid (λ s. refl) o.here (λ bad. cc) o.few
  by_open false e =
      let none : length w.waiting ≡ 0 = none_waits w.waiting (λ s h. both_ways _ (o.closed e s) (waits_out w o s h)) in
      orderly_like w (round_begun w.zone) (seat_begun w.scan) true o (valid_begun w.zone o.valid) (λ s. refl) o.here (λ bad. cc) (omega arith, omega arith)

-- a serial that waits after one more was appended waited before, or is that one
waited : (waiting : List ℕ) (n s : ℕ) → list_any (nat_eq s) (waiting ++ n ∷ []) ≡ true → (list_any (nat_eq s) waiting ≡ true) ⊎ (s ≡ n)
waited waiting n s e = elim (or_cases (list_any (nat_eq s) waiting) _ (sym (list_any-append (nat_eq s) waiting (n ∷ [])) ∙ e)) [
  | inl there ↦ inl there
  | inr last ↦ elim (or_cases (nat_eq s n) false last) [ inl here ↦ inr (eqb-true s n here) | inr bad ↦ cc ]
]

waits_on : (waiting : List ℕ) (n s : ℕ) → list_any (nat_eq s) waiting ≡ true → list_any (nat_eq s) (waiting ++ n ∷ []) ≡ true
waits_on waiting n s e = list_any-append (nat_eq s) waiting (n ∷ []) ∙ or_left _ _ e

waits_last : (waiting : List ℕ) (n s : ℕ) → s ≡ n → list_any (nat_eq s) (waiting ++ n ∷ []) ≡ true
waits_last waiting n s e = list_any-append (nat_eq s) waiting (n ∷ []) ∙ or_right (list_any (nat_eq s) waiting) _ (or_left (nat_eq s n) false (eq-eqb s n e))

rising_more : (waiting : List ℕ) (n : ℕ) → IsRising waiting → ((s : ℕ) → list_any (nat_eq s) waiting ≡ true → s < n) → IsRising (waiting ++ n ∷ [])
rising_more [] n rising below = (λ m h. absurd (both_ways false refl h), tt)
rising_more (x ∷ waiting) n rising below =
    let first : x < n = below x (or_left (nat_eq x x) _ (eq-eqb x x refl)) in (
      λ m h. elim (waited waiting n m h) [ inl there ↦ rising.0 m there | inr same ↦ omega arith ],
      rising_more waiting n rising.1 (λ s h. below s (or_right (nat_eq s x) _ h)),
    )

module _ (w : WorldState) (o : IsOrderly w) (is_open : w.is_open ≡ true) (pair : Pair) (law : IsValidZone (isolated_next w.zone pair)) (is_pair : IsPair w.zone pair.page pair.source pair.target) where
  abbrev next_serial : ℕ
  next_serial = isolated w.zone.records

  abbrev now_waiting : List ℕ
  now_waiting = w.waiting ++ next_serial ∷ []

  below_next : (s : ℕ) → is_out w.zone.records s ≡ true → s < next_serial
  below_next s e = out_below w.zone.records o.valid.journal.well_ended s e

  isolated_stands : (s : ℕ) → (nat_eq s next_serial || is_out w.zone.records s) ≡ true → Stands now_waiting w.hands s
  isolated_stands s e = elim (or_cases (nat_eq s next_serial) _ e) [
    | inl here ↦ inl (waits_last w.waiting next_serial s (eqb-true s next_serial here))
    | inr before ↦ elim (stands_out w o s before) [ inl there ↦ inl (waits_on w.waiting next_serial s there) | inr there ↦ inr there ]
  ]

  isolated_out : (s : ℕ) → Stands now_waiting w.hands s → (nat_eq s next_serial || is_out w.zone.records s) ≡ true
  isolated_out s (inl there) = elim (waited w.waiting next_serial s there) [
    | inl before ↦ or_right (nat_eq s next_serial) _ (waits_out w o s before)
    | inr same ↦ or_left (nat_eq s next_serial) _ (eq-eqb s next_serial same)
  ]
  isolated_out s (inr there) = or_right (nat_eq s next_serial) _ (in_hand_out w o there.0 s there.1 there.2)

  not_waiting : (k s : ℕ) → 0 < k → serial_in (held_at w.hands k) ≡ Some s → list_any (nat_eq s) now_waiting ≡ true → ⊥
  not_waiting k s some there e =
      let under : s < next_serial = below_next s (in_hand_out w o k s some there) in
      elim (waited w.waiting next_serial s e) [ inl before ↦ both_ways _ (o.one_place k s some there) before | inr same ↦ omega arith ]

  isolated_here : (s : ℕ) → (nat_eq s next_serial || is_out w.zone.records s) ≡ true → set.contains w.zone.lent_pages (unwrap_or (if nat_eq next_serial s then Some pair.page else page_of w.zone.records s) 0) ≡ false
  isolated_here s e = elim (or_cases (nat_eq s next_serial) _ e) [
    | inl here ↦ ap (λ (b : Bool). set.contains w.zone.lent_pages (unwrap_or (if b then Some pair.page else page_of w.zone.records s) 0)) (eq-eqb next_serial s (sym (eqb-true s next_serial here))) ∙ pair_here w.zone pair o.valid is_pair
    | inr before ↦ (let apart : next_serial ≢ s = (let under : s < next_serial = below_next s before in λ same. omega arith) in
        ap (λ (b : Bool). set.contains w.zone.lent_pages (unwrap_or (if b then Some pair.page else page_of w.zone.records s) 0)) (ne_eqb next_serial s apart) ∙ o.here s before)
  ]

  orderly_with_pair : IsOrderly (isolated_by w (Some pair))
  orderly_with_pair =
      let low : w.zone.migrate ≤ pair.source = is_pair.from.low in
      let high : pair.target < w.zone.free = is_pair.to.high in
      let longer : length now_waiting ≡ length w.waiting + 1 = length-append w.waiting (next_serial ∷ []) in
      record {
        valid = law;
        whole = o.whole;
        four = o.four;
        rising = rising_more w.waiting next_serial o.rising (λ s h. below_next s (waits_out w o s h));
        out = λ s. (λ h. stands_so now_waiting w.hands s (isolated_stands s h), λ h. isolated_out s (stands now_waiting w.hands s h));
        here = isolated_here;
        one_hand = o.one_hand;
        one_place = λ k s some there. false_from_ne_true _ (not_waiting k s some there);
        closed = λ e. absurd (both_ways _ e is_open);
        few = (omega (arith, o.few.0), omega (arith, o.few.1));
      }

pub orderly_isolated : (w : WorldState) → IsOrderly w → w.is_open ≡ true → isolate_refusal w.zone ≡ None → IsOrderly (isolated_by w (next_pair w.zone))
orderly_isolated w o is_open room = by_pair (next_pair w.zone) refl where
  by_pair : (p : Option Pair) → next_pair w.zone ≡ p → IsOrderly (isolated_by w p)
  by_pair None e = orderly_noted w (seat_noted w.scan next.Met) o
  by_pair (Some pair) e =
      let is_pair = pair_found w.zone o.valid pair e in
      orderly_with_pair w o is_open pair (valid_isolated w.zone pair o.valid is_pair room) is_pair
