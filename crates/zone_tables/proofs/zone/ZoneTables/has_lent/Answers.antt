use Rattle.std.proofs.Common.{◌≡◌, ◌∙◌, ℕ, not, sym, ap, arith}
use Rattle.std.specs.Prelude.{Option, Some, None}
use Rattle.std.specs.FinMap as map
use Rattle.std.proofs.lemmas.Bool.{both_ways, eq-eqb, eqb-true, not-false}
use Rattle.state_core.specs.declared.placement.Placement.{Placement}
use Rattle.state_core.specs.declared.placement.Placement.TheVariants.{Moving}
use Rattle.state_core.specs.ZoneState.{takes_up}
use Rattle.state_core.proofs.Facts.{takes_own}
use Rattle.zone_tables.specs.declared.ending.Move.{Move}
use Rattle.zone_tables.proofs.LendingMoves.{lent_by_page, not_lent}
use Rattle.zone_tables.proofs.Tables.{noted_at}
use Rattle.zone_tables.proofs.zone.ZoneTables.has_lent.Goals as goal
use Rattle.zone_tables.proofs.zone.ZoneTables.has_lent.Goals.{then-serial-way-via-then-serial-way, then-serial-way-via-else-serial-way+then-ne, then-serial-way-via-else-serial-way+else-ne+then-ne-2}

-- no other placement is that of a move
nowhere : (o : Option Placement) (serial source target : ℕ) → o ≡ None → o ≡ Some (Moving serial source target) → ⊥
nowhere o serial source target e f = cc

resting : (o : Option Placement) (placement : Placement) (serial source target : ℕ) → o ≡ Some placement → (placement ≡ Moving serial source target → ⊥) → o ≡ Some (Moving serial source target) → ⊥
resting o placement serial source target e ne f = let same : placement ≡ Moving serial source target = cc in ne same

-- two moves of one page are the same
same_way : (o : Option Placement) (a b c d e f : ℕ) → o ≡ Some (Moving a b c) → o ≡ Some (Moving d e f) → (a ≡ d) × (b ≡ e) × (c ≡ f)
same_way o a b c d e f first second = (cc, cc, cc)

pub returns-in_default : goal.returns-in_default
returns-in_default g c =
    let m = c.args.lent.now in
    let noted = noted_at c.self.inside c.self.view_is (ap (λ (w : Move). w.page) c.way-way.ensures) c.placement.ensures in
    not_lent c.args.self.now m (nowhere (map.get c.args.self.now.placement m.page) m.serial m.source m.target (noted ∙ c.in_default.is))

pub returns-in_default-placement : goal.returns-in_default-placement
returns-in_default-placement g c =
    let m = c.args.lent.now in
    let noted = noted_at c.self.inside c.self.view_is (ap (λ (w : Move). w.page) c.way-way.ensures) c.placement.ensures in
    not_lent c.args.self.now m (resting (map.get c.args.self.now.placement m.page) c.in-Some.placement m.serial m.source m.target (noted ∙ c.in-Some.is) (c.in_default-placement.not-Moving m.serial m.source m.target))

pub returns-then-serial-way : goal.returns-then-serial-way
returns-then-serial-way g c =
    let m = c.args.lent.now in
    let noted = noted_at c.self.inside c.self.view_is (ap (λ (w : Move). w.page) c.way-way.ensures) c.placement.ensures in
    let way = c.way-way.ensures in
    not_lent c.args.self.now m (λ at.
    let same = same_way _ _ _ _ _ _ _ (noted ∙ c.in-Some.is ∙ ap Some c.in-Moving.is) at in
    elim c.then-serial-way.branch [
      | then-serial-way-via-then-serial-way w ↦ w.if-serial-way.true (same.0 ∙ sym (ap (λ (w : Move). w.serial) way))
      | then-serial-way-via-else-serial-way+then-ne w ↦ both_ways _ (ap not (eq-eqb _ _ (same.1 ∙ sym (ap (λ (w : Move). w.source) way)))) (sym w.if-ne.ensures)
      | then-serial-way-via-else-serial-way+else-ne+then-ne-2 w ↦ both_ways _ (ap not (eq-eqb _ _ (same.2 ∙ sym (ap (λ (w : Move). w.target) way)))) (sym w.if-ne-2.ensures)
    ])

pub is_lent_in-requires : goal.is_lent_in-requires
is_lent_in-requires g c =
    let noted = noted_at c.self.inside c.self.view_is (ap (λ (w : Move). w.page) c.way-way.ensures) c.placement.ensures in
    (omega arith, (c.args.lent.now.page, ap (λ (o : Option Placement). takes_up o c.in-Moving.source) (noted ∙ c.in-Some.is ∙ ap Some c.in-Moving.is) ∙ takes_own (Moving c.in-Moving.serial c.in-Moving.source c.in-Moving.target)))

pub returns : goal.returns
returns g c =
    let m = c.args.lent.now in
    let way = c.way-way.ensures in
    let noted = noted_at c.self.inside c.self.view_is (ap (λ (w : Move). w.page) way) c.placement.ensures in
    let at = noted ∙ c.in-Some.is ∙ ap Some c.in-Moving.is in
    let serial = c.if-serial-way.false ∙ ap (λ (w : Move). w.serial) way in
    let source = eqb-true _ _ (not-false _ (sym c.if-ne.ensures)) ∙ ap (λ (w : Move). w.source) way in
    let target = eqb-true _ _ (not-false _ (sym c.if-ne-2.ensures)) ∙ ap (λ (w : Move). w.target) way in
    c.is_lent_in.ensures m.page (ap (λ (o : Option Placement). takes_up o c.in-Moving.source) at ∙ takes_own (Moving c.in-Moving.serial c.in-Moving.source c.in-Moving.target))
    ∙ lent_by_page c.args.self.now m (at ∙ (λ i. Some (Moving (serial i) (source i) (target i))))
