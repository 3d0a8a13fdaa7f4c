use Rattle.std.proofs.Common.{◌≡◌, ◌∙◌, ℕ, ap, sym, refl, true, false, arith}
use Rattle.std.specs.Prelude.{Option, Some, None, is_some}
use Rattle.std.specs.FinMap as map
use Rattle.std.specs.FinSet as set
use Rattle.state_core.specs.declared.placement.Placement.{Placement}
use Rattle.state_core.specs.declared.placement.Placement.TheVariants.{Moving}
use Rattle.state_core.specs.ZoneState.{ZoneState, takes_up}
use Rattle.state_core.proofs.Facts.{takes_own}
use Rattle.zone_tables.proofs.Tables.{noted_at, not_own, own_when, other_serial}
use Rattle.zone_tables.proofs.zone.ZoneTables.find_move.Goals as goal
use Rattle.std.proofs.lemmas.Bool.{both_ways, eqb-true, not-false}

nowhere : (o : Option Placement) (serial source target : ℕ) → o ≡ None → o ≡ Some (Moving serial source target) → ⊥
nowhere o serial source target e f = cc

resting : (o : Option Placement) (placement : Placement) (serial source target : ℕ) → o ≡ Some placement →
    (placement ≡ Moving serial source target → ⊥) → o ≡ Some (Moving serial source target) → ⊥
resting o placement serial source target e ne f = let same : placement ≡ Moving serial source target = cc in ne same

takes_source : (o : Option Placement) {serial source target : ℕ} → o ≡ Some (Moving serial source target) → takes_up o source ≡ true
takes_source o {serial} {source} {target} at = ap (λ (p : Option Placement). takes_up p source) at ∙ takes_own (Moving serial source target)

pub is_lent_in-requires : goal.is_lent_in-requires
is_lent_in-requires g c =
    let noted = noted_at c.self.inside c.self.view_is c.number.ensures c.placement.ensures in
    (omega arith, (c.args.page.now.number, takes_source _ (noted ∙ c.in_ok-under.was ∙ ap Some c.in-Moving.is)))

pub returns-in_err-under-clause-own : goal.returns-in_err-under-clause-own
returns-in_err-under-clause-own g c =
    let noted = noted_at c.self.inside c.self.view_is c.number.ensures c.placement.ensures in
    not_own c.args.page.now.zone c.args.self.now.number c.args.serial
    (map.get c.args.self.now.placement c.args.page.now.number) (set.contains c.args.self.now.lent_pages c.args.page.now.number) (is_some c.from_residual.result)
    (ap is_some c.from_residual.ensures)
    (λ source target e back. nowhere (map.get c.args.self.now.placement c.args.page.now.number) c.args.serial source target
    (noted ∙ c.in_err-under.was) e)

pub returns-in_default-clause-own : goal.returns-in_default-clause-own
returns-in_default-clause-own g c =
    let noted = noted_at c.self.inside c.self.view_is c.number.ensures c.placement.ensures in
    not_own c.args.page.now.zone c.args.self.now.number c.args.serial
    (map.get c.args.self.now.placement c.args.page.now.number) (set.contains c.args.self.now.lent_pages c.args.page.now.number) false refl
    (λ source target e back. resting (map.get c.args.self.now.placement c.args.page.now.number) c.in_ok-under.field-0
    c.args.serial source target (noted ∙ c.in_ok-under.was) (c.in_default.not-Moving c.args.serial source target) e)

pub returns-then-under-serial-clause-own : goal.returns-then-under-serial-clause-own
returns-then-under-serial-clause-own g c =
    let noted = noted_at c.self.inside c.self.view_is c.number.ensures c.placement.ensures in
    not_own c.args.page.now.zone c.args.self.now.number c.args.serial
    (map.get c.args.self.now.placement c.args.page.now.number) (set.contains c.args.self.now.lent_pages c.args.page.now.number) false refl
    (λ s t e back. other_serial (map.get c.args.self.now.placement c.args.page.now.number) c.in-Moving.under c.args.serial
    c.in-Moving.source c.in-Moving.target (noted ∙ c.in_ok-under.was ∙ ap Some c.in-Moving.is) c.if-under-serial.true s t e)

pub returns-clause-own : goal.returns-clause-own
returns-clause-own g c =
    let noted = noted_at c.self.inside c.self.view_is c.number.ensures c.placement.ensures in
    let here : c.args.page.now.zone ≡ c.args.self.now.number = sym c.zone.ensures
    ∙ eqb-true c.zone.result c.self.inside.number (not-false _ (sym c.if-ne.ensures)) ∙ ap (λ (v : ZoneState). v.number) c.self.view_is in (
      λ some. own_when c.args.page.now.zone c.args.self.now.number c.args.serial
          (map.get c.args.self.now.placement c.args.page.now.number)
          c.in-Moving.under c.in-Moving.source c.in-Moving.target (set.contains c.args.self.now.lent_pages c.args.page.now.number) here
          (noted ∙ c.in_ok-under.was ∙ ap Some c.in-Moving.is) c.if-under-serial.false
          (sym (c.if-is_lent_in.ensures c.args.page.now.number (takes_source _ (noted ∙ c.in_ok-under.was ∙ ap Some c.in-Moving.is)))),
      λ own. refl,
    )

pub returns-clause-placed : goal.returns-clause-placed
returns-clause-placed g c =
    let noted = noted_at c.self.inside c.self.view_is c.number.ensures c.placement.ensures in
    ap (map.get c.args.self.now.placement) c.number-2.ensures ∙ noted ∙ c.in_ok-under.was ∙ ap Some c.in-Moving.is
    ∙ ap (λ (n : ℕ). Some (Moving n c.in-Moving.source c.in-Moving.target)) c.if-under-serial.false

pub returns-then-is_lent_in-clause-own : goal.returns-then-is_lent_in-clause-own
returns-then-is_lent_in-clause-own g c =
    let noted = noted_at c.self.inside c.self.view_is c.number.ensures c.placement.ensures in
    let lent = c.if-is_lent_in.ensures c.args.page.now.number (takes_source _ (noted ∙ c.in_ok-under.was ∙ ap Some c.in-Moving.is)) in
    not_own c.args.page.now.zone c.args.self.now.number c.args.serial
    (map.get c.args.self.now.placement c.args.page.now.number) (set.contains c.args.self.now.lent_pages c.args.page.now.number) false refl
    (λ source target e back. both_ways _ back (sym lent))

pub returns-clause-here : goal.returns-clause-here
returns-clause-here g c =
    let noted = noted_at c.self.inside c.self.view_is c.number.ensures c.placement.ensures in
    ap (set.contains c.args.self.now.lent_pages) c.number-2.ensures
    ∙ sym (c.if-is_lent_in.ensures c.args.page.now.number (takes_source _ (noted ∙ c.in_ok-under.was ∙ ap Some c.in-Moving.is)))
