use Rattle.std.proofs.Common.{◌≡◌, ◌∙◌, ℕ, refl, ap, subst, sym, arith}
use Rattle.std.specs.Prelude.{Option, Some, None, IfSome, IfNone}
use Rattle.std.specs.FinMap as map
use Rattle.frame_core.specs.History.{page_at}
use Rattle.frame_core.specs.Moves.{isolated}
use Rattle.frame_core.specs.Page.{IsolatedPage}
use Rattle.state_core.specs.declared.placement.Placement.TheVariants.{Moving}
use Rattle.state_core.specs.declared.round.Pair.{Pair}
use Rattle.state_core.specs.Valid.{IsValidZone}
use Rattle.state_core.specs.Pairs.{IsPair, HaveMet}
use Rattle.state_core.specs.ZoneState.{ZoneState}
use Rattle.state_core.proofs.Entries.{get_insert_same, get_insert_other}
use Rattle.state_core.proofs.Facts.{isolated_bound}
use Rattle.state_core.proofs.Packing.{packed_quiet}
use Rattle.zone_core.proofs.bare.BareZone.isolate_next.Goals as goal

pub returns-clause-pair : goal.returns-clause-pair
returns-clause-pair g c =
    let z = c.deref_mut.result.now in
    let view = c.deref_mut.ensures.value ∙ c.self.view_is in
    let pair = c.in-Some.pair in
    let number = ap (λ (p : IsolatedPage). p.page.number) c.isolate-page.ensures.page in
    let serial = ap (λ (p : IsolatedPage). p.serial) c.isolate-page.ensures.page in
    let step = c.isolate-page.ensures.step in
    let is_pair = subst (λ (o : Option Pair). IfSome o (λ (p : Pair). IsPair c.args.self.now p.page p.source p.target)) c.in-Some.is c.in_ok-pair.ensures.is_pair in
    record {
      source = pair.source;
      target = pair.target;
      pair = subst (λ (page : ℕ). IsPair c.args.self.now page pair.source pair.target) (sym number) is_pair;
      way = ap (λ (v : ZoneState). map.get v.placement c.isolate-page.result.page.number) step
          ∙ get_insert_same z.placement pair.page c.isolate-page.result.page.number _ number
          ∙ ap (λ (s : ℕ). Some (Moving s pair.source pair.target)) (sym serial);
      others = λ other ne. ap (λ (v : ZoneState). map.get v.placement other) step
          ∙ get_insert_other z.placement pair.page other _ (λ e. ne (e ∙ sym number))
          ∙ ap (λ (v : ZoneState). map.get v.placement other) view;
      names = λ address. ap (λ (v : ZoneState). page_at v.records address) step ∙ ap (λ (v : ZoneState). page_at v.records address) view;
    }

pub returns-clause-followed : goal.returns-clause-followed
returns-clause-followed g c =
    let view = c.deref_mut.ensures.value ∙ c.self.view_is in
    let serial = ap (λ (p : IsolatedPage). p.serial) c.isolate-page.ensures.page ∙ ap (λ (v : ZoneState). isolated v.records) view in
    omega (arith, serial, isolated_bound c.args.self.now (subst IsValidZone c.self.view_is c.self.invariant))

-- the scanners have met where there is no pair
met_if_none : (z : ZoneState) (found : Option Pair) → ((pair : Pair) → found ≡ Some pair → ⊥) → IfNone found (HaveMet z) → HaveMet z
met_if_none z None others met = met
met_if_none z (Some pair) others met = absurd (others pair refl)

pub returns-in_default-clause-packed : goal.returns-in_default-clause-packed
returns-in_default-clause-packed g c = λ met quiet none.
    packed_quiet c.args.self.now (subst IsValidZone c.self.view_is c.self.invariant) quiet none (met_if_none c.args.self.now c.in_ok-pair.field-0 c.in_default.not-Some c.in_ok-pair.ensures.none)
