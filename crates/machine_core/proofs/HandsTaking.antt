-- Hands that take and copy pages keep a world orderly.
use Rattle.std.proofs.Common.{◌≡◌, ◌≢◌, ℕ, ◌+◌, ◌-◌, ◌<◌, ◌≤◌, true, List, [], ◌∷◌, length, ◌⊎◌, inl, inr, refl, sym, ap, subst, ◌∙◌, arith}
use Rattle.std.specs.Prelude.{Option, Some, None, slice_set, nat_eq, ◌||◌}
use Rattle.std.specs.List.{list_any}
use Rattle.std.specs.Option.{option_and_then}
use Rattle.std.proofs.lemmas.Bool.{eq-eqb, eqb-true, or_cases, or_left, or_right, false_from_ne_true, both_ways}
use Rattle.std.proofs.lemmas.List.{length-set}
use Rattle.std.proofs.lemmas.Option.{some_pair_parts, same_Some}
use Rattle.machine_core.specs.declared.hands.Held.{Held}
use Rattle.machine_core.specs.declared.hands.Held.TheVariants.{Nothing, Page, Copy}
use Rattle.machine_core.specs.Hands.{held_at, page_held, serial_in}
use Rattle.machine_core.specs.World.{WorldState, IsOrderly, IsRising, with_hand, waits, taken_by, take_step, copy_step}
use Rattle.machine_core.proofs.Standing.{Stands, stands, stands_so, set_cases, stands_out}

-- hand k takes the page that has waited longest
module _ (w : WorldState) (k first : ℕ) (more : List ℕ) (low : 0 < k) (high : k ≤ 4) (o : IsOrderly w) (empty : held_at w.hands k ≡ Nothing) (waiting : w.waiting ≡ first ∷ more) where
  abbrev hands_then : List (Held ℕ ℕ)
  hands_then = slice_set w.hands (k - 1) (Page first)

  rising_first : IsRising (first ∷ more)
  rising_first = subst IsRising waiting o.rising

  waits_is : (s : ℕ) → waits w s ≡ (nat_eq s first || list_any (nat_eq s) more)
  waits_is s = ap (list_any (nat_eq s)) waiting

  first_waits : waits w first ≡ true
  first_waits = waits_is first ∙ or_left (nat_eq first first) _ (eq-eqb first first refl)

  more_waits : (s : ℕ) → list_any (nat_eq s) more ≡ true → waits w s ≡ true
  more_waits s e = waits_is s ∙ or_right (nat_eq s first) _ e

  -- a hand that has a page afterwards had it, or is hand k
  has_now : (j s : ℕ) → 0 < j → serial_in (held_at hands_then j) ≡ Some s → ((j ≡ k) × (s ≡ first)) ⊎ ((j ≢ k) × (serial_in (held_at w.hands j) ≡ Some s))
  has_now j s some e = elim (set_cases w.hands j k (Page first) o.four some low high) [
    | inl here ↦ inl (here.0, (let both : Some s ≡ Some first = sym e ∙ ap serial_in here.1 in cc))
    | inr there ↦ inr (there.0, sym (ap serial_in there.1) ∙ e)
  ]

  had_before : (j s : ℕ) → 0 < j → serial_in (held_at w.hands j) ≡ Some s → serial_in (held_at hands_then j) ≡ Some s
  had_before j s some e = elim (set_cases w.hands j k (Page first) o.four some low high) [
    | inl here ↦ (let bad : None ≡ Some s = sym (ap (λ (i : ℕ). serial_in (held_at w.hands i)) here.0 ∙ ap serial_in empty) ∙ e in cc)
    | inr there ↦ ap serial_in there.1 ∙ e
  ]

  has_first : serial_in (held_at hands_then k) ≡ Some first
  has_first = elim (set_cases w.hands k k (Page first) o.four low low high) [ inl here ↦ ap serial_in here.1 | inr there ↦ absurd (there.0 refl) ]

  -- the page that waits first is in no hand
  first_in_none : (j : ℕ) → 0 < j → serial_in (held_at w.hands j) ≡ Some first → ⊥
  first_in_none j some e = both_ways _ (o.one_place j first some e) first_waits

  taken_stands : (s : ℕ) → Stands w.waiting w.hands s → Stands more hands_then s
  taken_stands s (inl there) = elim (or_cases (nat_eq s first) _ (sym (waits_is s) ∙ there)) [
    | inl here ↦ inr (k, low, has_first ∙ ap Some (sym (eqb-true s first here)))
    | inr later ↦ inl later
  ]
  taken_stands s (inr there) = inr (there.0, there.1, had_before there.0 s there.1 there.2)

  taken_stood : (s : ℕ) → Stands more hands_then s → Stands w.waiting w.hands s
  taken_stood s (inl there) = inl (more_waits s there)
  taken_stood s (inr there) = elim (has_now there.0 s there.1 there.2) [
    | inl here ↦ inl (ap (waits w) here.1 ∙ first_waits)
    | inr before ↦ inr (there.0, there.1, before.1)
  ]

  taken_one_hand : (i j s : ℕ) → serial_in (held_at hands_then i) ≡ Some s → serial_in (held_at hands_then j) ≡ Some s → 0 < i → 0 < j → i ≡ j
  taken_one_hand i j s e f some_i some_j = by_cases (has_now i s some_i e) (has_now j s some_j f) where
    by_cases : ((i ≡ k) × (s ≡ first)) ⊎ ((i ≢ k) × (serial_in (held_at w.hands i) ≡ Some s)) → ((j ≡ k) × (s ≡ first)) ⊎ ((j ≢ k) × (serial_in (held_at w.hands j) ≡ Some s)) → i ≡ j
    by_cases (inl a) (inl b) = a.0 ∙ sym b.0
    by_cases (inl a) (inr b) = absurd (first_in_none j some_j (b.1 ∙ ap Some a.1))
    by_cases (inr a) (inl b) = absurd (first_in_none i some_i (a.1 ∙ ap Some b.1))
    by_cases (inr a) (inr b) = o.one_hand i j s a.1 b.1 some_i some_j

  taken_one_place : (j s : ℕ) → 0 < j → serial_in (held_at hands_then j) ≡ Some s → list_any (nat_eq s) more ≡ true → ⊥
  taken_one_place j s some e later = elim (has_now j s some e) [
    | inl here ↦ (let above : first < s = rising_first.0 s later in let same : s ≡ first = here.1 in omega arith)
    | inr before ↦ both_ways _ (o.one_place j s some before.1) (more_waits s later)
  ]

  orderly_with_taken : IsOrderly (record (with_hand w k (Page first)) { waiting = more })
  orderly_with_taken =
      let longer : length w.waiting ≡ length more + 1 = ap length waiting ∙ (let one : length (first ∷ more) ≡ length more + 1 = omega arith in one) in
      record {
        valid = o.valid;
        whole = o.whole;
        four = length-set w.hands (k - 1) (Page first) ∙ o.four;
        rising = rising_first.1;
        out = λ s. (λ h. stands_so more hands_then s (taken_stands s (stands_out w o s h)), λ h. (o.out s).1 (stands_so w.waiting w.hands s (taken_stood s (stands more hands_then s h))));
        one_hand = taken_one_hand;
        one_place = λ j s some e. false_from_ne_true _ (taken_one_place j s some e);
        here = o.here;
        closed = o.closed;
        few = (omega (arith, o.few.0), omega (arith, o.few.1));
      }

  first_least : (s : ℕ) → waits w s ≡ true → first ≤ s
  first_least s e = elim (or_cases (nat_eq s first) _ (sym (waits_is s) ∙ e)) [
    | inl here ↦ (let same : s ≡ first = eqb-true s first here in omega arith)
    | inr later ↦ (let above : first < s = rising_first.0 s later in omega arith)
  ]

-- what a take needs, and what it leaves
took : (w : WorldState) (k serial : ℕ) (after : WorldState) (hand : Held ℕ ℕ) (waiting : List ℕ) → taken_by w k hand waiting ≡ Some (serial, after) → (more : List ℕ) × (hand ≡ Nothing) × (waiting ≡ serial ∷ more) × (record (with_hand w k (Page serial)) { waiting = more } ≡ after)
took w k serial after Nothing (first ∷ more) e =
    let parts = some_pair_parts first serial (record (with_hand w k (Page first)) { waiting = more }) after e in
    (more, refl, ap (λ (s : ℕ). s ∷ more) parts.0, ap (λ (s : ℕ). record (with_hand w k (Page s)) { waiting = more }) (sym parts.0) ∙ parts.1)
took w k serial after Nothing [] e = cc
took w k serial after (Page s) waiting e = cc
took w k serial after (Copy s) waiting e = cc

pub orderly_taken : (w : WorldState) (k serial : ℕ) (after : WorldState) → 0 < k → k ≤ 4 → IsOrderly w → take_step w k ≡ Some (serial, after) → IsOrderly after
orderly_taken w k serial after low high o e =
    let t = took w k serial after (held_at w.hands k) w.waiting e in
    subst IsOrderly t.3 (orderly_with_taken w k serial t.0 low high o t.1 t.2)

pub least_taken : (w : WorldState) (k serial : ℕ) (after : WorldState) → 0 < k → k ≤ 4 → IsOrderly w → take_step w k ≡ Some (serial, after) → (s : ℕ) → waits w s ≡ true → serial ≤ s
least_taken w k serial after low high o e =
    let t = took w k serial after (held_at w.hands k) w.waiting e in
    first_least w k serial t.0 low high o t.1 t.2

page_serial : (serial : ℕ) (hand : Held ℕ ℕ) → page_held hand ≡ Some serial → serial_in hand ≡ Some serial
page_serial serial hand e = grind arith

-- hand k copies its page
module _ (w : WorldState) (k serial : ℕ) (low : 0 < k) (high : k ≤ 4) (o : IsOrderly w) (page : page_held (held_at w.hands k) ≡ Some serial) where
  abbrev with_copy : List (Held ℕ ℕ)
  with_copy = slice_set w.hands (k - 1) (Copy serial)

  same_serial : (j : ℕ) → 0 < j → serial_in (held_at with_copy j) ≡ serial_in (held_at w.hands j)
  same_serial j some = elim (set_cases w.hands j k (Copy serial) o.four some low high) [
    | inl here ↦ ap serial_in here.1 ∙ sym (ap (λ (i : ℕ). serial_in (held_at w.hands i)) here.0 ∙ page_serial serial (held_at w.hands k) page)
    | inr there ↦ ap serial_in there.1
  ]

  copied_stands : (s : ℕ) → Stands w.waiting w.hands s → Stands w.waiting with_copy s
  copied_stands s (inl there) = inl there
  copied_stands s (inr there) = inr (there.0, there.1, same_serial there.0 there.1 ∙ there.2)

  copied_stood : (s : ℕ) → Stands w.waiting with_copy s → Stands w.waiting w.hands s
  copied_stood s (inl there) = inl there
  copied_stood s (inr there) = inr (there.0, there.1, sym (same_serial there.0 there.1) ∙ there.2)

  orderly_with_copy : IsOrderly (with_hand w k (Copy serial))
  orderly_with_copy = record {
    valid = o.valid;
    whole = o.whole;
    four = length-set w.hands (k - 1) (Copy serial) ∙ o.four;
    rising = o.rising;
    out = λ s. (λ h. stands_so w.waiting with_copy s (copied_stands s (stands_out w o s h)), λ h. (o.out s).1 (stands_so w.waiting w.hands s (copied_stood s (stands w.waiting with_copy s h))));
    one_hand = λ i j s e f some_i some_j. o.one_hand i j s (sym (same_serial i some_i) ∙ e) (sym (same_serial j some_j) ∙ f) some_i some_j;
    one_place = λ j s some e. o.one_place j s some (sym (same_serial j some) ∙ e);
    here = o.here;
    closed = o.closed;
    few = o.few;
  }

pub orderly_copied : (w : WorldState) (k : ℕ) (after : WorldState) → 0 < k → k ≤ 4 → IsOrderly w → copy_step w k ≡ Some after → IsOrderly after
orderly_copied w k after low high o e = by_page (page_held (held_at w.hands k)) refl e where
  by_page : (p : Option ℕ) → page_held (held_at w.hands k) ≡ p → option_and_then (λ serial. Some (with_hand w k (Copy serial))) p ≡ Some after → IsOrderly after
  by_page None is e = cc
  by_page (Some serial) is e = subst IsOrderly (same_Some _ _ e) (orderly_with_copy w k serial low high o is)
