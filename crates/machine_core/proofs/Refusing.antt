-- A hand that may not take, copy or finish is refused.
use Rattle.std.proofs.Common.{◌≡◌, ℕ, ◌-◌, Bool, false, List, [], ◌∷◌, length, drop, true≢false, refl, ap, ◌∙◌, arith}
use Rattle.std.specs.Prelude.{Option, Some, None}
use Rattle.std.specs.Option.{option_and_then}
use Rattle.frame_core.specs.Page.{IsolatedPage}
use Rattle.frame_core.specs.Serials.{serials_of}
use Rattle.machine_core.specs.declared.hands.Held.{Held}
use Rattle.machine_core.specs.declared.hands.Held.TheVariants.{Nothing, Page, Copy}
use Rattle.machine_core.specs.Carried.{InHand, hand_as, world_of}
use Rattle.machine_core.specs.Hands.{held_at, is_nothing, page_held, copy_held}
use Rattle.machine_core.specs.World.{WorldState, with_hand, take_step, copy_step, finish_step, finished_as, finished_by, taken_by}
use Rattle.state_core.specs.declared.error.ZoneError.{ZoneError}
use Rattle.state_core.specs.declared.error.ZoneError.TheVariants.{JournalFull}
use Rattle.state_core.specs.Isolating.{isolate_refusal}
use Rattle.state_core.specs.ZoneState.{ZoneState}
use Rattle.zone_core.specs.Seats.{ScanSeat, EndSeat}
use Rattle.machine_core.proofs.Carrying.{seen_at}

no_page : (h : InHand) → ((p : IsolatedPage) → page_held h ≡ Some p → ⊥) → page_held (hand_as h) ≡ None
no_page Nothing not = refl
no_page (Page p) not = absurd (not p refl)
no_page (Copy p) not = refl

no_copy : (h : InHand) → ((p : IsolatedPage) → copy_held h ≡ Some p → ⊥) → copy_held (hand_as h) ≡ None
no_copy Nothing not = refl
no_copy (Page p) not = refl
no_copy (Copy p) not = absurd (not p refl)

not_taken : (w : WorldState) (k : ℕ) (h : InHand) (waiting : List ℕ) → is_nothing h ≡ false → taken_by w k (hand_as h) waiting ≡ None
not_taken w k Nothing waiting e = absurd (true≢false e)
not_taken w k (Page p) waiting e = refl
not_taken w k (Copy p) waiting e = refl

none_taken : (w : WorldState) (k : ℕ) (h : Held ℕ ℕ) → taken_by w k h [] ≡ None
none_taken w k Nothing = refl
none_taken w k (Page serial) = refl
none_taken w k (Copy serial) = refl

module _ (zone : ZoneState) (scan : ScanSeat) (ends : EndSeat) (is_open : Bool) (list : List IsolatedPage) (held : List InHand) (k : ℕ) where
  abbrev before : WorldState
  before = world_of zone scan ends is_open list held

  pub take_refused : is_nothing (held_at held k) ≡ false → take_step before k ≡ None
  take_refused e = ap (λ (h : Held ℕ ℕ). taken_by before k h (serials_of list)) (seen_at held (k - 1)) ∙ not_taken before k (held_at held k) (serials_of list) e

  pub take_refused-none : list ≡ [] → take_step before k ≡ None
  take_refused-none e = ap (λ (l : List IsolatedPage). taken_by (world_of zone scan ends is_open l held) k (held_at before.hands k) (serials_of l)) e ∙ none_taken (world_of zone scan ends is_open [] held) k (held_at before.hands k)

  pub copy_refused : (o : Option IsolatedPage) → ((p : IsolatedPage) → o ≡ Some p → ⊥) → o ≡ page_held (held_at held k) → copy_step before k ≡ None
  copy_refused o not e =
      ap (λ (p : Option ℕ). option_and_then (λ (serial : ℕ). Some (with_hand before k (Copy serial))) p)
      (ap page_held (seen_at held (k - 1)) ∙ no_page (held_at held k) (λ p is. not p (e ∙ is)))

  pub finish_refused : (o : Option IsolatedPage) → ((p : IsolatedPage) → o ≡ Some p → ⊥) → o ≡ copy_held (held_at held k) → finish_step before k ≡ None
  finish_refused o not e =
      ap (λ (p : Option ℕ). option_and_then (λ (serial : ℕ). Some (finished_as before.zone serial, finished_by before k serial)) p)
      (ap copy_held (seen_at held (k - 1)) ∙ no_copy (held_at held k) (λ p is. not p (e ∙ is)))

-- a list that is the same without its first is empty
pub empty_if : {A : Type 0} (list : List A) → list ≡ drop 1 list → list ≡ []
empty_if [] e = refl
empty_if (x ∷ list) e = absurd (omega (arith, ap length e))

-- the one reason why a scan is refused
pub full_if : (z : ZoneState) (error : ZoneError) → Some error ≡ isolate_refusal z → isolate_refusal z ≡ Some JournalFull
full_if z error e = grind arith
