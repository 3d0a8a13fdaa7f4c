-- What is true between two pages of a round on one thread.
use Rattle.std.proofs.Common.{◌≡◌, ℕ, Bool, List, [], ◌∷◌, refl, sym, ap, subst, ◌∙◌, Option, Some, None, not, cond}
use Rattle.std.specs.Prelude.{is_none}
use Rattle.std.specs.FinMap as map
use Rattle.std.proofs.lemmas.Bool.{eq-eqb}
use Rattle.state_core.proofs.Entries.{get_insert_same}
use Rattle.frame_core.specs.History.{pins}
use Rattle.frame_core.specs.Moves.{isolated, out, put_back, without}
use Rattle.state_core.specs.declared.error.ZoneError.{ZoneError}
use Rattle.state_core.specs.declared.placement.Placement.TheVariants.{Moving}
use Rattle.state_core.specs.declared.round.Pair.{Pair}
use Rattle.state_core.specs.declared.moves.Next.TheVariants as answer
use Rattle.state_core.specs.Carrying.{page_now}
use Rattle.state_core.specs.Ending.{IsOwnCopy, moved_to_target}
use Rattle.state_core.specs.Isolating.{isolate_refusal, isolated_next, next_answer, next_state}
use Rattle.state_core.specs.Valid.{IsValidZone}
use Rattle.state_core.specs.Pairs.{next_pair}
use Rattle.state_core.specs.Rounds.{round_begun}
use Rattle.state_core.specs.ZoneState.{ZoneState}
use Rattle.state_core.proofs.Carried.{own_fresh}
use Rattle.state_core.proofs.Pairing.{pair_found}
use Rattle.state_core.proofs.Rounds.{valid_begun}
use Rattle.state_core.proofs.Settled.{pair_here}
use Rattle.zone_core.specs.Alone.{ComesTo, IsAtRest}
use Rattle.zone_core.specs.ByHand.{scan_pair, scan_step, all_isolated, by_hand}
use Rattle.zone_core.specs.Outcome.{IsSame}
use Rattle.zone_core.proofs.ByHand.{exact}
use Rattle.zone_core.proofs.Coming.{comes_begun, comes_scan, comes_move, stopped_seen}
use Rattle.zone_core.proofs.Scanner.{refusal_same}
use Rattle.zone_core.proofs.Scanning.{valid_scan, no_pin}
use Rattle.frame_core.specs.Page.{IsolatedPage}
use Rattle.zone_core.specs.OneThread.{last_for, last_by_hand}

-- no page is moving, none was put back, and the round goes on to what the round by hand comes to
pub record IsBetween (start z : ZoneState) : Type 0 where
  pub rest : IsAtRest start
  pub valid : IsValidZone z
  pub comes : ComesTo start z
  pub none_out : out z.records ≡ []
  pub none_back : put_back z.records ≡ put_back start.records

pub between_begun : (start : ZoneState) → IsAtRest start → IsBetween start (round_begun start)
between_begun start rest = record {
  rest = rest;
  valid = valid_begun start rest.valid;
  comes = comes_begun start rest;
  none_out = rest.none_out;
  none_back = refl;
}

pub pair_scanned : (z : ZoneState) (o : Option Pair) → isolate_refusal z ≡ None → next_pair z ≡ o → scan_pair z ≡ o
pair_scanned z o spare found = ap (λ (r : Option ZoneError). cond (is_none r) (next_pair z) None) spare ∙ found

-- the page of the pair, once it was isolated
module _ (start z : ZoneState) (is : IsBetween start z) (pair : Pair) (spare : isolate_refusal z ≡ None) (found : next_pair z ≡ Some pair) where
  abbrev next : ZoneState
  next = isolated_next z pair

  is_step : scan_step z ≡ next
  is_step = ap (next_state z) (pair_scanned z (Some pair) spare found)

  valid_next : IsValidZone next
  valid_next = subst IsValidZone is_step (valid_scan z is.valid)

  comes_next : ComesTo start next
  comes_next = subst (ComesTo start) is_step (comes_scan start z is.valid is.comes)

  at_next : map.get next.placement pair.page ≡ Some (Moving (isolated z.records) pair.source pair.target)
  at_next = get_insert_same z.placement pair.page pair.page _ refl

  pub unpinned : pins next.records pair.page ≡ 0
  unpinned = no_pin next comes_next.carried pair.page (isolated z.records) pair.source pair.target at_next

  pub between_moved : IsValidZone (moved_to_target next (isolated z.records) pair.page) → IsBetween start (moved_to_target next (isolated z.records) pair.page)
  between_moved law = record {
    rest = is.rest;
    valid = law;
    comes = comes_move start next pair.page (isolated z.records) pair.source pair.target valid_next at_next comes_next;
    none_out = ap (λ (serials : List ℕ). without (isolated z.records) (isolated z.records ∷ serials)) is.none_out
        ∙ ap (λ (b : Bool). cond (not b) (isolated z.records ∷ []) []) (eq-eqb (isolated z.records) (isolated z.records) refl);
    none_back = is.none_back;
  }

-- where the scanner stops
module _ (start z : ZoneState) (is : IsBetween start z) (none : scan_pair z ≡ None) where
  pub exact_stopped : IsSame (by_hand start) z
  exact_stopped = exact start z is.rest is.valid is.comes (stopped_seen start z is.comes none).count is.none_out is.none_back

  pub refusal_is : isolate_refusal z ≡ isolate_refusal (all_isolated start)
  refusal_is = refusal_same z (all_isolated start) (stopped_seen start z is.comes none)

  pub last_is : last_for (isolate_refusal z) ≡ last_by_hand start
  last_is = ap last_for refusal_is

-- what the answer of a scan tells of the pair
pub record IsPageOf (z z_new : ZoneState) (p : IsolatedPage) (o : Option Pair) : Type 0 where
  pub pair : Pair
  pub found : o ≡ Some pair
  pub page : p ≡ record { serial = isolated z.records; page = page_now z pair.page }
  pub left : z_new ≡ isolated_next z pair

pub page_scanned : (z z_new : ZoneState) (p : IsolatedPage) (o : Option Pair) → answer.Page p ≡ next_answer z o → z_new ≡ next_state z o → IsPageOf z z_new p o
page_scanned z z_new p None says left = cc
page_scanned z z_new p (Some pair) says left = record { pair = pair; found = refl; page = cc; left = left }

-- a page that was just isolated is its own copy
pub own_isolated : (z z_new : ZoneState) (p : IsolatedPage) (o : Option Pair) → IsValidZone z → next_pair z ≡ o → answer.Page p ≡ next_answer z o → z_new ≡ next_state z o → IsOwnCopy z_new p
own_isolated z z_new p None law found says left = cc
own_isolated z z_new p (Some pair) law found says left =
    let page : p ≡ _ = cc in
    subst (λ (w : ZoneState). IsOwnCopy w p) (sym left) (subst (IsOwnCopy (isolated_next z pair)) (sym page) (own_fresh z pair (pair_here z pair law (pair_found z law pair found))))
