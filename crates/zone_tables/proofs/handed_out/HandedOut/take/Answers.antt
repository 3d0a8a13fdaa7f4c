use Rattle.std.proofs.Common.{◌≡◌, ◌+◌, ◌<◌, sym, subst, ℕ, List, length, arith}
use Rattle.std.specs.Prelude.{Option, None}
use Rattle.frame_core.specs.FixedVec.{with_item}
use Rattle.zone_tables.specs.HandedOut.{order_of}
use Rattle.zone_tables.specs.HandedOutInside.{IsCounted}
use Rattle.zone_tables.proofs.BlockOrders.{taken_counted, taken_few}
use Rattle.zone_tables.proofs.handed_out.HandedOut.take.Goals as goal

pub overflow_add-self : goal.overflow_add-self
overflow_add-self c = omega (
  arith,
  taken_few c.self.inside c.self.invariant c.args.first c.args.order
      (subst (λ (os : List (Option ℕ)). c.args.first < length os) (sym c.self.view_is) c.requires.within) (subst (λ (os : List (Option ℕ)). order_of os c.args.first ≡ None) (sym c.self.view_is) c.requires.none),
)

pub invariant_of-self : goal.invariant_of-self
invariant_of-self c =
    let T : ℕ → Option ℕ → Type 0 = λ place order. IsCounted (record { orders = with_item c.self.inside.orders place order; blocks = c.self.inside.blocks + 1 }) in
    subst (λ (place : ℕ). T place c.of.result) (sym c.get.ensures.value)
    (subst (T c.args.first) (sym c.of.ensures)
    (taken_counted c.self.inside c.self.invariant c.args.first c.args.order
    (subst (λ (os : List (Option ℕ)). c.args.first < length os) (sym c.self.view_is) c.requires.within) (subst (λ (os : List (Option ℕ)). order_of os c.args.first ≡ None) (sym c.self.view_is) c.requires.none)))
