-- What a round by hand comes to.
use Rattle.std.proofs.Common.{◌≡◌, ℕ, zero, suc, ◌+◌, ◌-◌, ◌≤◌, Bool, true, false, cond, List, [], ◌∷◌, length, inl, inr, refl, sym, ap, ◌∙◌, arith, Option, Some, None, IsSome, is_some, nat_eq}
use Rattle.std.specs.FinMap as map
use Rattle.std.specs.Cmp.{nat_cmp_total}
use Rattle.std.proofs.lemmas.Bool.{and_parts, eqb-true, or_cases, false≢true, false_from_ne_true}
use Rattle.std.proofs.lemmas.Option.{same_Some}
use Rattle.std.proofs.lemmas.Bool.Decides.{eqb_tells}
use Rattle.frame_core.specs.declared.record.Record.{Record}
use Rattle.frame_core.specs.declared.record.Record.TheVariants.{Isolate, Moved, Back}
use Rattle.frame_core.specs.Moves.{isolated, out, put_back, is_out, page_of}
use Rattle.frame_core.proofs.OnTheWay.{any_without, none_out}
use Rattle.state_core.specs.declared.placement.Placement.{Placement}
use Rattle.state_core.specs.declared.placement.Placement.TheVariants.{At, Moving}
use Rattle.state_core.specs.Ending.{moved_to_target, target_of}
use Rattle.state_core.specs.Valid.{IsValidZone, is_under}
use Rattle.state_core.specs.Rounds.{round_begun}
use Rattle.state_core.specs.ZoneState.{ZoneState, frame_count}
use Rattle.state_core.proofs.Entries.{get_insert_same, get_insert_other}
use Rattle.state_core.proofs.Facts.{not_none, some_is}
use Rattle.state_core.proofs.Holding.{at_rest}
use Rattle.state_core.proofs.Rounds.{valid_begun}
use Rattle.zone_core.specs.Alone.{AreCarriedUp, ComesTo, IsAtRest}
use Rattle.zone_core.specs.ByHand.{all_isolated, moved_if_moving, moved_below, by_hand}
use Rattle.zone_core.specs.Outcome.{Outcome, outcome_of, final_frame, IsSame}
use Rattle.zone_core.proofs.Scanning.{not_moving, valid_steps, carried_steps, frames_steps, back_steps}
use Rattle.zone_core.proofs.Ending.{valid_move, carried_moved, outcome_moved}
use Rattle.zone_core.proofs.Coming.{comes_begun, stopped_outcome, counted_stopped}

-- each page that is moving is moved in turn, and what the zone comes to stays the same

abbrev pub Stands : ZoneState → ℕ → Type 0
Stands z page = (serial source target : ℕ) → map.get z.placement page ≡ Some (Moving serial source target) → ⊥

none_moving : (s a b : ℕ) → None ≡ Some (Moving s a b) → ⊥
none_moving s a b e = cc

moved_by : (z : ZoneState) (n : ℕ) (P : ZoneState → Type 0) (o : Option Placement) → map.get z.placement n ≡ o → (Stands z n → P z) → ((s a b : ℕ) → map.get z.placement n ≡ Some (Moving s a b) → P (moved_to_target z s n)) → P (moved_if_moving o z n)
moved_by z n P None e stays goes = stays (λ s a b at. none_moving s a b (sym e ∙ at))
moved_by z n P (Some (At f)) e stays goes = stays (λ s a b at. not_moving f s a b (sym e ∙ at))
moved_by z n P (Some (Moving s a b)) e stays goes = goes s a b e

abbrev pub one : ZoneState → ℕ → ZoneState
one z n = moved_if_moving (map.get z.placement n) z n

pub by_one : (z : ZoneState) (n : ℕ) (P : ZoneState → Type 0) → (Stands z n → P z) → ((s a b : ℕ) → map.get z.placement n ≡ Some (Moving s a b) → P (moved_to_target z s n)) → P (one z n)
by_one z n P = moved_by z n P (map.get z.placement n) refl

pub record IsMoving (z : ZoneState) : Type 0 where
  pub law : IsValidZone z
  pub carried : AreCarriedUp z

pub moving_moved : (z : ZoneState) (n s a b : ℕ) → IsMoving z → map.get z.placement n ≡ Some (Moving s a b) → IsMoving (moved_to_target z s n)
moving_moved z n s a b m at = record { law = valid_move z m.law m.carried n s a b at; carried = carried_moved z m.law m.carried n s a b at }

moving_one : (z : ZoneState) (n : ℕ) → IsMoving z → IsMoving (one z n)
moving_one z n m = by_one z n IsMoving (λ stands. m) (λ s a b at. moving_moved z n s a b m at)

outcome_one : (z : ZoneState) (n : ℕ) → IsMoving z → outcome_of (one z n) ≡ outcome_of z
outcome_one z n m = by_one z n (λ w. outcome_of w ≡ outcome_of z) (λ stands. refl) (λ s a b at. outcome_moved z m.law m.carried n s a b at)

pub moving_all : (n : ℕ) (z : ZoneState) → IsMoving z → IsMoving (moved_below n z)
moving_all zero z m = m
moving_all (suc n) z m = moving_all n (one z n) (moving_one z n m)

pub outcome_all : (n : ℕ) (z : ZoneState) → IsMoving z → outcome_of (moved_below n z) ≡ outcome_of z
outcome_all zero z m = refl
outcome_all (suc n) z m = outcome_all n (one z n) (moving_one z n m) ∙ outcome_one z n m

back_one : (z : ZoneState) (n : ℕ) → put_back (one z n).records ≡ put_back z.records
back_one z n = by_one z n (λ w. put_back w.records ≡ put_back z.records) (λ stands. refl) (λ s a b at. refl)

back_all : (n : ℕ) (z : ZoneState) → put_back (moved_below n z).records ≡ put_back z.records
back_all zero z = refl
back_all (suc n) z = back_all n (one z n) ∙ back_one z n

-- no page from a number on is moving
abbrev pub StandFrom : ℕ → ZoneState → Type 0
StandFrom n z = (page : ℕ) → n ≤ page → Stands z page

stand_moved : (z : ZoneState) (n s : ℕ) → StandFrom (suc n) z → StandFrom n (moved_to_target z s n)
stand_moved z n s stand page low t a b at =
    let there = At (target_of (map.get z.placement n)) in
    elim (eqb_tells page n) [
      | inl same ↦ not_moving _ t a b (sym (get_insert_same z.placement n page there same.1) ∙ at)
      | inr other ↦ (let ne = other.1 in stand page (omega arith) t a b (sym (get_insert_other z.placement n page there other.1) ∙ at))
    ]

stand_here : (z : ZoneState) (n : ℕ) → StandFrom (suc n) z → Stands z n → StandFrom n z
stand_here z n stand here page low t a b at = elim (eqb_tells page n) [
  | inl same ↦ here t a b (sym (ap (map.get z.placement) same.1) ∙ at)
  | inr other ↦ (let ne = other.1 in stand page (omega arith) t a b at)
]

stand_all : (n : ℕ) (z : ZoneState) → StandFrom n z → StandFrom 0 (moved_below n z)
stand_all zero z stand = stand
stand_all (suc n) z stand = stand_all n (one z n) (by_one z n (StandFrom n) (λ here. stand_here z n stand here) (λ s a b at. stand_moved z n s stand))

stand_past : (z : ZoneState) → IsValidZone z → StandFrom (frame_count z) z
stand_past z law page low s a b at = let under = law.pages.numbered page (not_none (map.get z.placement page) (Moving s a b) at) in absurd (omega arith)

-- zones in which no page is moving are the same if they come to the same

same_place : (o p : Option Placement) → ((s a b : ℕ) → o ≡ Some (Moving s a b) → ⊥) → ((s a b : ℕ) → p ≡ Some (Moving s a b) → ⊥) → final_frame o ≡ final_frame p → o ≡ p
same_place (Some (Moving s a b)) p h k e = absurd (h s a b refl)
same_place o (Some (Moving s a b)) h k e = absurd (k s a b refl)
same_place None None h k e = refl
same_place (Some (At f)) (Some (At g)) h k e = let same : f ≡ g = same_Some f g e in ap (λ (n : ℕ). Some (At n)) same
same_place _ _ h k e = cc

pub same_outcome : (z w : ZoneState) → StandFrom 0 z → StandFrom 0 w → out z.records ≡ [] → out w.records ≡ [] → put_back z.records ≡ put_back w.records → outcome_of z ≡ outcome_of w → IsSame z w
same_outcome z w at_z at_w none_z none_w backs e =
    let places : length z.records + z.room ≡ length w.records + w.room = ap (λ (r : Outcome). r.places) e in
    let room : z.room - length (out z.records) ≡ w.room - length (out w.records) = ap (λ (r : Outcome). r.room) e in
    record {
      number = ap (λ (r : Outcome). r.number) e;
      blocks = ap (λ (r : Outcome). r.blocks) e;
      spaces = ap (λ (r : Outcome). r.spaces) e;
      vpages = ap (λ (r : Outcome). r.vpages) e;
      page_size = ap (λ (r : Outcome). r.page_size) e;
      records = ap (λ (r : Outcome). r.records) e;
      room = omega (arith, room, ap length none_z, ap length none_w);
      unmovable = ap (λ (r : Outcome). r.unmovable) e;
      marked = ap (λ (r : Outcome). r.marked) e;
      apart = ap (λ (r : Outcome). r.apart) e;
      claimed = ap (λ (r : Outcome). r.claimed) e;
      handed_out = ap (λ (r : Outcome). r.handed_out) e;
      contents = ap (λ (r : Outcome). r.contents) e;
      lent = ap (λ (r : Outcome). r.lent) e;
      lent_pages = ap (λ (r : Outcome). r.lent_pages) e;
      memory = ap (λ (r : Outcome). r.memory) e;
      placement = map.same_map nat_cmp_total map.nat_cmp-IsAntisymmetric z.placement w.placement
          (λ q. same_place (map.get z.placement q) (map.get w.placement q) (at_z q (omega arith)) (at_w q (omega arith)) (ap (λ (r : Outcome). r.frame q) e));
      length_is = omega (arith, room, places, ap length none_z, ap length none_w);
      back = backs;
      out_is = none_z ∙ sym none_w;
    }

-- where no page is moving, none is out

some_more : (o : Option ℕ) (b : Bool) (page : ℕ) → IsSome o → IsSome (cond b (Some page) o)
some_more o true page e = refl
some_more o false page e = e

out_has_page : (rs : List Record) (s : ℕ) → is_out rs s ≡ true → IsSome (page_of rs s)
out_has_page [] s e = cc
out_has_page (Isolate page serial ∷ rs) s e = elim (eqb_tells serial s) [
  | inl same ↦ ap (λ b. is_some (cond b (Some page) (page_of rs s))) same.0
  | inr other ↦ elim (or_cases (nat_eq s serial) (is_out rs s) e) [
    | inl here ↦ absurd (other.1 (sym (eqb-true s serial here)))
    | inr there ↦ some_more (page_of rs s) (nat_eq serial s) page (out_has_page rs s there)
  ]
]
out_has_page (Moved serial ∷ rs) s e = out_has_page rs s (and_parts _ _ (sym (any_without serial s (out rs)) ∙ e)).0
out_has_page (Back cause serial ∷ rs) s e = out_has_page rs s (and_parts _ _ (sym (any_without serial s (out rs)) ∙ e)).0
out_has_page (_ ∷ rs) s e = out_has_page rs s e

standing : (o : Option Placement) (s : ℕ) → is_under o s ≡ true → ((t a b : ℕ) → o ≡ Some (Moving t a b) → ⊥) → ⊥
standing None s e stands = false≢true e
standing (Some (At f)) s e stands = false≢true e
standing (Some (Moving t a b)) s e stands = stands t a b refl

pub nothing_out : (z : ZoneState) → IsValidZone z → StandFrom 0 z → out z.records ≡ []
nothing_out z law stand = none_out z.records (λ s. false_from_ne_true (is_out z.records s) (λ e.
    let page = some_is (page_of z.records s) (out_has_page z.records s e) in
    standing (map.get z.placement page.0) s ((law.agrees.under_way page.0 s).1 (e, page.1)) (stand page.0 (omega arith))))

-- the zones of a round by hand

module _ (start : ZoneState) (rest : IsAtRest start) where
  begun : IsValidZone (round_begun start)
  begun = valid_begun start rest.valid

  pub moving_isolated : IsMoving (all_isolated start)
  moving_isolated = record {
    law = valid_steps (frame_count start) (round_begun start) begun;
    carried = carried_steps (frame_count start) (round_begun start) begun (comes_begun start rest).carried;
  }

  moving_by_hand : IsMoving (by_hand start)
  moving_by_hand = moving_all (frame_count start) (all_isolated start) moving_isolated

  pub stand_by_hand : StandFrom 0 (by_hand start)
  stand_by_hand =
      let frames = frames_steps (frame_count start) (round_begun start) begun in
      stand_all (frame_count start) (all_isolated start) (λ page low. stand_past (all_isolated start) moving_isolated.law page (omega (arith, frames)))

  pub none_by_hand : out (by_hand start).records ≡ []
  none_by_hand = nothing_out (by_hand start) moving_by_hand.law stand_by_hand

  pub back_by_hand : put_back (by_hand start).records ≡ put_back start.records
  back_by_hand = back_all (frame_count start) (all_isolated start) ∙ back_steps (frame_count start) (round_begun start) begun

-- where as many pages were isolated as by hand, none is moving and none was put back, the zone is the one after the round by hand
pub exact : (start z : ZoneState) → IsAtRest start → IsValidZone z → ComesTo start z
    → isolated z.records ≡ isolated (all_isolated start).records → out z.records ≡ [] → put_back z.records ≡ put_back start.records → IsSame (by_hand start) z
exact start z rest law comes count none back =
    let stops = counted_stopped start z law comes count in
    let hand = outcome_all (frame_count start) (all_isolated start) (moving_isolated start rest) in
    same_outcome (by_hand start) z (stand_by_hand start rest) (λ page low s a b at. at_rest z law (ap length none) page s a b at) (none_by_hand start rest) none
    (back_by_hand start rest ∙ sym back) (hand ∙ sym (stopped_outcome start z comes back stops))
