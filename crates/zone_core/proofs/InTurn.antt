-- A round that moves one page after the other.
use Rattle.std.proofs.Common.{◌≡◌, ℕ, zero, suc, ◌+◌, ◌-◌, ◌<◌, ◌≤◌, refl, sym, ap, subst, ◌∙◌, arith, cond}
use Rattle.std.specs.Prelude.{Bool, true, false, nat_eq, is_some, is_none, Option, Some, None}
use Rattle.std.proofs.lemmas.Bool.{eqb-true, and_parts}
use Rattle.std.specs.FinMap as map
use Rattle.std.specs.FinSet as set
use Rattle.frame_core.specs.History.{pins}
use Rattle.frame_core.specs.Moves.{isolated}
use Rattle.state_core.specs.Isolating.{isolate_refusal, isolated_next}
use Rattle.state_core.specs.Ending.{committed, moved_to_target}
use Rattle.state_core.specs.Pairs.{can_move, next_pair}
use Rattle.state_core.specs.Valid.{IsValidZone}
use Rattle.state_core.specs.ZoneState.{ZoneState}
use Rattle.state_core.specs.declared.error.ZoneError.{ZoneError}
use Rattle.state_core.specs.declared.placement.Placement.TheVariants.{Moving}
use Rattle.state_core.specs.declared.round.Pair.{Pair}
use Rattle.state_core.proofs.Entries.{get_insert_same}
use Rattle.zone_tables.specs.declared.ending.Move.{Move}
use Rattle.state_core.proofs.Facts.{room_for_two}
use Rattle.zone_core.specs.OneThread.{moved_to, moved_next, going_on, moved_at_most, all_moved}
use Rattle.zone_core.specs.ByHand.{scan_pair}
use Rattle.zone_core.proofs.OneThread.{IsBetween, between_moved, unpinned}

-- it stays where it stopped, however many moves it may still make
pub stays : (most : ℕ) (z : ZoneState) → moved_next z ≡ None → moved_at_most most z ≡ z
stays zero z stopped = refl
stays (suc most) z stopped = ap (going_on (moved_at_most most) z) stopped

by_either : (b : Bool) (x y : ZoneState) (n : ℕ) → x.room ≡ n → y.room ≡ n → (cond b x y).room ≡ n
by_either true x y n one other = one
by_either false x y n one other = other

-- the end of a move takes a place of the journal
committed_took : (z : ZoneState) (serial page : ℕ) → (committed z serial page).room ≡ z.room - 1
committed_took z serial page = by_either (nat_eq (pins z.records page) 0) _ _ (z.room - 1) refl refl

took_by : (z next : ZoneState) (refusal : Option ZoneError) (o : Option Pair) → isolate_refusal z ≡ refusal
    → cond (is_some refusal) None (moved_to z o) ≡ Some next → next.room < z.room
took_by z next (Some error) o is moved = absurd cc
took_by z next None None is moved = absurd cc
took_by z next None (Some pair) is moved =
    let left : committed (isolated_next z pair) (isolated z.records) pair.page ≡ next = cc in
    let spare = room_for_two z is in
    omega (arith, spare, ap (λ (w : ZoneState). w.room) left, committed_took (isolated_next z pair) (isolated z.records) pair.page)

-- each move takes places of the journal
pub took : (z next : ZoneState) → moved_next z ≡ Some next → next.room < z.room
took z next moved = took_by z next (isolate_refusal z) (next_pair z) refl moved

none_left_by : (z : ZoneState) (o : Option ZoneState) → moved_next z ≡ o → z.room ≤ 0 → o ≡ None
none_left_by z None is none = refl
none_left_by z (Some next) is none = absurd (omega (arith, took z next is))

-- no page is moved where the journal has no place left
none_left : (z : ZoneState) → z.room ≤ 0 → moved_next z ≡ None
none_left z none = none_left_by z (moved_next z) refl none

either_way : (f g : ZoneState → ZoneState) (z : ZoneState) (o : Option ZoneState) → ((next : ZoneState) → o ≡ Some next → f next ≡ g next) → going_on f z o ≡ going_on g z o
either_way f g z None same = refl
either_way f g z (Some next) same = same next refl

-- after one move there is one less to make
pub one_further : (most at : ℕ) (z next : ZoneState) → at < most → moved_next z ≡ Some next → moved_at_most (most - (at + 1)) next ≡ moved_at_most (most - at) z
one_further most at z next less moved =
    let left : most - at ≡ suc (most - (at + 1)) = omega (arith, less) in
    sym (ap (λ (n : ℕ). moved_at_most n z) left ∙ ap (going_on (moved_at_most (most - (at + 1))) z) moved)

-- so many moves are enough as the journal has places left: more make no difference
enough : (n m : ℕ) (z : ZoneState) → z.room ≤ n → z.room ≤ m → moved_at_most n z ≡ moved_at_most m z
enough zero zero z low high = refl
enough zero (suc m) z low high = sym (stays (suc m) z (none_left z low))
enough (suc n) zero z low high = stays (suc n) z (none_left z high)
enough (suc n) (suc m) z low high =
    either_way (moved_at_most n) (moved_at_most m) z (moved_next z)
    (λ (next : ZoneState) (moved : moved_next z ≡ Some next).
    let less = took z next moved in
    enough n m next (omega (arith, less, low)) (omega (arith, less, high)))

-- a move is one of all
pub all_further : (z next : ZoneState) → moved_next z ≡ Some next → all_moved z ≡ all_moved next
all_further z next moved =
    let less = took z next moved in
    enough z.room (suc z.room) z (omega arith) (omega arith)
    ∙ ap (going_on (moved_at_most z.room) z) moved
    ∙ enough z.room next.room next (omega (arith, less)) (omega arith)

-- all were moved where there is no further move
pub all_done : (z : ZoneState) → moved_next z ≡ None → all_moved z ≡ z
all_done z stopped = stays z.room z stopped

-- a page without a pin is moved, and not put back
committed_moved : (z : ZoneState) (serial page : ℕ) → pins z.records page ≡ 0 → committed z serial page ≡ moved_to_target z serial page
committed_moved z serial page none = cc

between_by : (start z next : ZoneState) → IsBetween start z → (refusal : Option ZoneError) (o : Option Pair) → isolate_refusal z ≡ refusal → next_pair z ≡ o
    → cond (is_some refusal) None (moved_to z o) ≡ Some next → IsValidZone next → IsBetween start next
between_by start z next is (Some error) o spare found moved law = absurd cc
between_by start z next is None None spare found moved law = absurd cc
between_by start z next is None (Some pair) spare found moved law =
    let left : moved_to_target (isolated_next z pair) (isolated z.records) pair.page ≡ next =
    sym (committed_moved (isolated_next z pair) (isolated z.records) pair.page (unpinned start z is pair spare found)) ∙ cc in
    subst (IsBetween start) left (between_moved start z is pair spare found (subst IsValidZone (sym left) law))

-- between two pages it stays so that no page is moving
pub between_next : (start z next : ZoneState) → IsBetween start z → moved_next z ≡ Some next → IsValidZone next → IsBetween start next
between_next start z next is moved law = between_by start z next is (isolate_refusal z) (next_pair z) refl refl moved law

-- no page is moved where the scanners have met, or none can be isolated
pub met_moves_none : (z : ZoneState) → next_pair z ≡ None → moved_next z ≡ None
met_moves_none z none = by_refusal (isolate_refusal z)
  where
    by_refusal : (r : Option ZoneError) → cond (is_some r) None (moved_to z (next_pair z)) ≡ None
    by_refusal None = ap (moved_to z) none
    by_refusal (Some error) = refl

pub full_moves_none : (z : ZoneState) (error : ZoneError) → isolate_refusal z ≡ Some error → moved_next z ≡ None
full_moves_none z error refused = ap (λ (r : Option ZoneError). cond (is_some r) None (moved_to z (next_pair z))) refused

-- where no page is moved, the scanner stops
pub none_scanned : (z : ZoneState) → moved_next z ≡ None → scan_pair z ≡ None
none_scanned z none = by_both (isolate_refusal z) (next_pair z) none
  where
    by_both : (r : Option ZoneError) (o : Option Pair) → cond (is_some r) None (moved_to z o) ≡ None → cond (is_none r) o None ≡ None
    by_both (Some error) o is = refl
    by_both None None is = refl
    by_both None (Some pair) is = absurd cc

-- a page that may be taken from its frame has no pin
unpinned_if_movable : (z : ZoneState) (page : ℕ) → can_move z page ≡ true → pins z.records page ≡ 0
unpinned_if_movable z page can = eqb-true (pins z.records page) 0 (and_parts (nat_eq (pins z.records page) 0) _ can).0

-- the page of the pair was isolated: its move has begun
module _ (start z begun : ZoneState) (pair : Pair) (way : Move) (same : z ≡ start) (is : way ≡ record { page = pair.page; serial = isolated z.records; source = pair.source; target = pair.target }) (step : begun ≡ isolated_next z pair) where
  pub begun_placed : map.get begun.placement way.page ≡ Some (Moving way.serial way.source way.target)
  begun_placed =
      (λ i. map.get (step i).placement (is i).page)
      ∙ get_insert_same z.placement pair.page pair.page (Moving (isolated z.records) pair.source pair.target) refl
      ∙ sym (ap (λ (m : Move). Some (Moving m.serial m.source m.target)) is)

  pub begun_here : set.contains begun.lent_pages pair.page ≡ false → set.contains begun.lent_pages way.page ≡ false
  begun_here here = ap (λ (m : Move). set.contains begun.lent_pages m.page) is ∙ here

  pub begun_unpinned : can_move start pair.page ≡ true → pins begun.records way.page ≡ 0
  begun_unpinned can =
      (λ i. pins (step i).records (is i).page) ∙ ap (λ (v : ZoneState). pins v.records pair.page) same ∙ unpinned_if_movable start pair.page can
