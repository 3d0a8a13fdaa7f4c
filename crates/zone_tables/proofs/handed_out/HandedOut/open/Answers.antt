use Rattle.std.proofs.Common.{◌≡◌, ℕ, List, length, replicate, ◌∙◌, ap, sym, arith}
use Rattle.std.specs.Prelude.{Option, None, is_some}
use Rattle.std.proofs.lemmas.List.{length-replicate}
use Rattle.frame_core.proofs.Searches.{count_none}
use Rattle.zone_tables.specs.HandedOut.{order_of}
use Rattle.zone_tables.proofs.Copies.{no_order}
use Rattle.zone_tables.proofs.handed_out.HandedOut.open.Goals as goal

pub invariant_of-result : goal.invariant_of-result
invariant_of-result c =
    let orders = c.in_ok-orders.orders.items in
    let items = c.in_ok-orders.ensures.items ∙ ap (replicate c.args.frames) c.of.ensures in
    let none : (first : ℕ) → order_of orders first ≡ None = λ first. ap (λ (os : List (Option ℕ)). order_of os first) items ∙ no_order c.args.frames first in
    let count : length orders ≡ c.args.frames = ap length items ∙ length-replicate c.args.frames None in
    record {
      few = omega (arith, count, c.requires);
      blocks = sym (count_none (λ first. is_some (order_of orders first)) (length orders) (λ first h. ap is_some (none first)));
    }
