-- What the tables of a valid zone say of its state.
use Rattle.std.proofs.Common.{◌≡◌, ℕ, true, length, refl, sym, ap, ◌∙◌, arith, Option, Some, None, eq-eqb, eqb-true}
use Rattle.std.specs.FinMap as map
use Rattle.std.proofs.lemmas.Bool.{both_ways}
pub use Rattle.std.proofs.lemmas.Bool.{false_from_ne_true as when_not}
use Rattle.frame_core.proofs.Searches.{lowest_is, lowest_none, lowest_some}
use Rattle.frame_core.proofs.OnTheWay.{out_empty}
use Rattle.frame_core.specs.Moves.{out}
use Rattle.state_core.specs.declared.placement.Placement.{Placement}
use Rattle.state_core.specs.declared.placement.Placement.TheVariants.{At, Moving}
use Rattle.state_core.specs.Valid.{IsValidZone, is_under}
use Rattle.state_core.specs.Pairs.{stands_in, holder}
use Rattle.state_core.specs.ZoneState.{ZoneState, frame_count, takes_up}
use Rattle.state_core.proofs.Facts.{not_none}

-- where a page with this placement is in a frame, its placement is that frame
pub stands_at : (o : Option Placement) (frame : ℕ) → stands_in o frame ≡ true → o ≡ Some (At frame)
stands_at (Some (At f)) frame e = ap (λ (g : ℕ). Some (At g)) (sym (eqb-true frame f e))
stands_at _ frame e = cc

pub at_takes : (o : Option Placement) (frame : ℕ) → o ≡ Some (At frame) → takes_up o frame ≡ true
at_takes o frame e = ap (λ (p : Option Placement). takes_up p frame) e ∙ eq-eqb frame frame refl

pub holder_at : (v : ZoneState) → IsValidZone v → (page frame : ℕ) → map.get v.placement page ≡ Some (At frame) →
    holder v frame ≡ Some page
holder_at v law page frame at =
    lowest_is (λ q. stands_in (map.get v.placement q) frame) (frame_count v) page
    (law.pages.numbered page (not_none _ (At frame) at)) (ap (λ o. stands_in o frame) at ∙ eq-eqb frame frame refl)
    (λ q h. when_not _ (λ stands.
    (let same = law.pages.apart q page frame (at_takes _ frame (stands_at _ frame stands)) (at_takes _ frame at) in
    omega arith)))

pub holder_found : (v : ZoneState) (page frame : ℕ) → holder v frame ≡ Some page → map.get v.placement page ≡ Some (At frame)
holder_found v page frame e = stands_at _ frame
    (lowest_some (λ q. stands_in (map.get v.placement q) frame) (frame_count v) page e).1

pub holder_none : (v : ZoneState) (frame : ℕ) → ((page : ℕ) → map.get v.placement page ≡ Some (At frame) → ⊥) →
    holder v frame ≡ None
holder_none v frame none = lowest_none (λ q. stands_in (map.get v.placement q) frame) (frame_count v)
    (λ q h. when_not _ (λ stands. none q (stands_at _ frame stands)))

-- where no page is out, no page is moving
pub at_rest : (v : ZoneState) → IsValidZone v → length (out v.records) ≡ 0 → (page serial source target : ℕ) → map.get v.placement page ≡ Some (Moving serial source target) → ⊥
at_rest v law none page serial source target at =
    let known = (law.agrees.under_way page serial).0 (ap (λ (o : Option Placement). is_under o serial) at ∙ eq-eqb serial serial refl) in
    both_ways _ (out_empty v.records none serial) known.0
