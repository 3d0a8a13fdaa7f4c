use Rattle.std.proofs.Common.{◌≡◌, ◌-◌, true, sym, subst, ℕ, List}
use Rattle.std.specs.Prelude.{Option, is_some}
use Rattle.frame_core.specs.FixedVec.{with_item}
use Rattle.zone_tables.specs.HandedOut.{order_of}
use Rattle.zone_tables.specs.HandedOutInside.{IsCounted}
use Rattle.zone_tables.proofs.BlockOrders.{given_counted, given_some}
use Rattle.zone_tables.proofs.handed_out.HandedOut.give.Goals as goal

pub overflow_sub-self : goal.overflow_sub-self
overflow_sub-self c = given_some c.self.inside c.self.invariant c.args.first (subst (λ (os : List (Option ℕ)). is_some (order_of os c.args.first) ≡ true) (sym c.self.view_is) c.requires)

pub invariant_of-self : goal.invariant_of-self
invariant_of-self c =
    let T : ℕ → Option ℕ → Type 0 = λ place order. IsCounted (record { orders = with_item c.self.inside.orders place order; blocks = c.self.inside.blocks - 1 }) in
    subst (λ (place : ℕ). T place c.of.result) (sym c.get.ensures.value)
    (subst (T c.args.first) (sym c.of.ensures)
    (given_counted c.self.inside c.self.invariant c.args.first (subst (λ (os : List (Option ℕ)). is_some (order_of os c.args.first) ≡ true) (sym c.self.view_is) c.requires)))
