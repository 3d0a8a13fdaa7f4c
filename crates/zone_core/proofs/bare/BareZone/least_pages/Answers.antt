use Rattle.std.proofs.Common.{◌^◌, ℕ, ap, length, sym, ◌∙◌, arith}
use Rattle.std.specs.Prelude.{nat_lt}
use Rattle.std.proofs.lemmas.Bool.{le-leb}
use Rattle.fewest_core.specs.FewestMoves.{costs}
use Rattle.zone_core.proofs.Picking.{least_next, pages_fit, rank_fits}
use Rattle.zone_core.proofs.bare.BareZone.least_pages.Goals as goal

pub overflow_add-pages : goal.overflow_add-pages
overflow_add-pages g c =
    let at = c.loop.invariant.ranked in
    let there = c.in_ok-run.ensures.there in
    omega (arith, c.next_open.ensures.valid.size.1, (pages_fit c.args.self.now (2 ^ c.args.order) c.loop.pages c.loop.counter c.in_ok-run.run' c.in_ok-run.ensures.next c.loop.invariant.few (sym (ap (λ (k : ℕ). nat_lt k (length (costs c.args.self.now (2 ^ c.args.order)))) at) ∙ sym there)).1)

pub loop-preserved : goal.loop-preserved
loop-preserved g c =
    let at = c.loop.invariant.ranked in
    let ranked = c.in_ok-run.ensures.ranked ∙ at in
    record {
      last_open = c.in_ok-run.ensures.next;
      ranked = omega (arith, ranked);
      so_far = omega (arith, c.loop.invariant.so_far, least_next c.args.self.now (2 ^ c.args.order) c.in_ok-run.run' c.loop.counter c.in_ok-run.ensures.next ranked);
      few = (pages_fit c.args.self.now (2 ^ c.args.order) c.loop.pages c.loop.counter c.in_ok-run.run' c.in_ok-run.ensures.next c.loop.invariant.few (sym (ap (λ (k : ℕ). nat_lt k (length (costs c.args.self.now (2 ^ c.args.order)))) at) ∙ sym c.in_ok-run.ensures.there)).0;
    }

pub returns-clause-there : goal.returns-clause-there
returns-clause-there g c = sym (le-leb _ _ (omega (arith, c.loop-test.false, c.loop.auto.counter-end, c.loop.invariant.ranked, rank_fits c.args.self.now (2 ^ c.args.order) c.loop.last c.loop.invariant.last_open)))
