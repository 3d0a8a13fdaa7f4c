use Rattle.std.proofs.Common.{ℕ, ◌+◌, ◌-◌, ◌*◌, ◌<◌, ◌∙◌, sym, inl, inr, arith}
use Rattle.std.specs.Prelude.{nat_lt, ◌&&◌}
use Rattle.std.specs.FinSet as set
use Rattle.std.proofs.lemmas.Bool.{lt-ltb}
use Rattle.std.proofs.lemmas.Bool.Decides.{leb_tells}
use Rattle.scan_core.proofs.Spanning.{all_members, in_run_is}
use Rattle.scan_core.proofs.WholeRuns.{inner, leaf, to_orders}
use Rattle.scan_core.proofs.whole_runs.WholeRuns.full.Goals as goal

pub returns-clause-whole : goal.returns-clause-whole
returns-clause-whole c =
    let blocks = c.args.blocks in
    let p = λ (frame : ℕ). nat_lt frame (512 * blocks) in
    let has = set.contains c.in_ok-numbers.numbers.members in
    let member = λ (n : ℕ) (h : n < 128 * blocks). c.in_ok-numbers.ensures.all n ∙ lt-ltb n (128 * blocks) h in
    to_orders blocks p has (λ n least most. member n most ∙ sym (elim (leb_tells (64 * blocks) n) [
      | inl high ↦ leaf blocks p has n high.1 ∙ sym (all_members p (8 * n - 512 * blocks) 8 (λ k part. let is = in_run_is (8 * n - 512 * blocks) 8 k part in lt-ltb k (512 * blocks) (omega (arith, is.1, most, high.1))))
      | inr low ↦ inner blocks p has n low.1 ∙ (λ i. member (2 * n) (omega (arith, low.1)) i && member (2 * n + 1) (omega (arith, low.1)) i)
    ]))
