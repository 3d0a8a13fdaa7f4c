-- Where a moving page is in a world: it waits, or a hand has it.
use Rattle.std.proofs.Common.{◌≡◌, ◌≢◌, ℕ, zero, suc, ◌+◌, ◌-◌, ◌<◌, ◌≤◌, Bool, true, false, List, [], ◌∷◌, length, ◌⊎◌, inl, inr, refl, sym, ap, ◌∙◌, arith}
use Rattle.std.specs.Prelude.{Option, Some, None, slice_get, slice_set, unwrap_or, nat_eq, ◌||◌}
use Rattle.std.specs.List.{list_all, list_any}
use Rattle.std.proofs.lemmas.Bool.{eq-eqb, eqb-true, or_cases, or_left, or_right}
use Rattle.std.proofs.lemmas.Bool.Decides.{eqb_tells}
use Rattle.std.proofs.lemmas.List.{get_or-set_same, get_or-set_other}
use Rattle.std.proofs.lemmas.Option.{unwrap_or-slice_get}
use Rattle.frame_core.specs.Moves.{is_out}
use Rattle.machine_core.specs.declared.hands.Held.{Held}
use Rattle.machine_core.specs.declared.hands.Held.TheVariants.{Nothing, Page, Copy}
use Rattle.machine_core.specs.Hands.{held_at, is_nothing, serial_in}
use Rattle.machine_core.specs.World.{WorldState, IsOrderly, waits, is_in}

-- whether a hand has a serial
abbrev pub holds : List (Held ℕ ℕ) → ℕ → Bool
holds hands s = list_any (λ hand. is_in s (serial_in hand)) hands

pub is_in_some : (s : ℕ) (o : Option ℕ) → is_in s o ≡ true → o ≡ Some s
is_in_some s None e = cc
is_in_some s (Some t) e = ap Some (sym (eqb-true s t e))

pub some_is_in : (s : ℕ) (o : Option ℕ) → o ≡ Some s → is_in s o ≡ true
some_is_in s o e = ap (is_in s) e ∙ eq-eqb s s refl

pub index_of : (hands : List (Held ℕ ℕ)) (s : ℕ) → holds hands s ≡ true → (i : ℕ) × (serial_in (unwrap_or (slice_get hands i) Nothing) ≡ Some s)
index_of [] s e = cc
index_of (hand ∷ hands) s e = elim (or_cases (is_in s (serial_in hand)) _ e) [
  | inl here ↦ (zero, is_in_some s (serial_in hand) here)
  | inr later ↦ (let found = index_of hands s later in (suc found.0, found.1))
]

pub holds_at : (hands : List (Held ℕ ℕ)) (i s : ℕ) → serial_in (unwrap_or (slice_get hands i) Nothing) ≡ Some s → holds hands s ≡ true
holds_at [] i s e = cc
holds_at (hand ∷ hands) zero s e = or_left (is_in s (serial_in hand)) _ (some_is_in s (serial_in hand) e)
holds_at (hand ∷ hands) (suc i) s e = or_right (is_in s (serial_in hand)) _ (holds_at hands i s e)

pub none_held : (hands : List (Held ℕ ℕ)) (s : ℕ) → list_all is_nothing hands ≡ true → holds hands s ≡ false
none_held [] s e = refl
none_held (Nothing ∷ hands) s e = none_held hands s e
none_held (Page t ∷ hands) s e = cc
none_held (Copy t ∷ hands) s e = cc

-- a serial waits, or a hand has it
abbrev pub Stands : List ℕ → List (Held ℕ ℕ) → ℕ → Type 0
Stands waiting hands s = (list_any (nat_eq s) waiting ≡ true) ⊎ ((k : ℕ) × (0 < k) × (serial_in (held_at hands k) ≡ Some s))

pub stands : (waiting : List ℕ) (hands : List (Held ℕ ℕ)) (s : ℕ) → (list_any (nat_eq s) waiting || holds hands s) ≡ true → Stands waiting hands s
stands waiting hands s e = elim (or_cases (list_any (nat_eq s) waiting) _ e) [
  | inl waits ↦ inl waits
  | inr there ↦
      (let found = index_of hands s there in
      let same : found.0 + 1 - 1 ≡ found.0 = omega arith in
      inr (found.0 + 1, omega arith, ap (λ (i : ℕ). serial_in (unwrap_or (slice_get hands i) Nothing)) same ∙ found.1))
]

pub stands_so : (waiting : List ℕ) (hands : List (Held ℕ ℕ)) (s : ℕ) → Stands waiting hands s → (list_any (nat_eq s) waiting || holds hands s) ≡ true
stands_so waiting hands s (inl waits) = or_left (list_any (nat_eq s) waiting) _ waits
stands_so waiting hands s (inr there) = or_right (list_any (nat_eq s) waiting) _ (holds_at hands (there.0 - 1) s there.2)

-- what each hand holds after one was given something
pub set_cases : (hands : List (Held ℕ ℕ)) (j k : ℕ) (hand : Held ℕ ℕ) → length hands ≡ 4 → 0 < j → 0 < k → k ≤ 4 → ((j ≡ k) × (held_at (slice_set hands (k - 1) hand) j ≡ hand)) ⊎ ((j ≢ k) × (held_at (slice_set hands (k - 1) hand) j ≡ held_at hands j))
set_cases hands j k hand four some low high = elim (eqb_tells j k) [
  | inl same ↦ inl (
    same.1,
    ap (held_at (slice_set hands (k - 1) hand)) same.1
        ∙ unwrap_or-slice_get (slice_set hands (k - 1) hand) (k - 1) Nothing
        ∙ get_or-set_same hands (k - 1) hand Nothing (omega arith),
  )
  | inr other ↦
      (let apart : j - 1 ≢ k - 1 = (let ne : j ≢ k = other.1 in omega arith) in
      inr (
        other.1,
        unwrap_or-slice_get (slice_set hands (k - 1) hand) (j - 1) Nothing
            ∙ get_or-set_other hands (k - 1) (j - 1) hand Nothing apart
            ∙ sym (unwrap_or-slice_get hands (j - 1) Nothing),
      ))
]

-- a serial waits or is in a hand, in an orderly world, exactly where it is out
pub stands_out : (w : WorldState) → IsOrderly w → (s : ℕ) → is_out w.zone.records s ≡ true → Stands w.waiting w.hands s
stands_out w o s e = stands w.waiting w.hands s ((o.out s).0 e)

pub waits_out : (w : WorldState) → IsOrderly w → (s : ℕ) → waits w s ≡ true → is_out w.zone.records s ≡ true
waits_out w o s e = (o.out s).1 (stands_so w.waiting w.hands s (inl e))

pub in_hand_out : (w : WorldState) → IsOrderly w → (k s : ℕ) → 0 < k → serial_in (held_at w.hands k) ≡ Some s → is_out w.zone.records s ≡ true
in_hand_out w o k s some e = (o.out s).1 (stands_so w.waiting w.hands s (inr (k, some, e)))
