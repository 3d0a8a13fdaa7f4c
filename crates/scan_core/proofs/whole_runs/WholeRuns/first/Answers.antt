use Rattle.std.proofs.Common.{◌≡◌, ℕ, ◌*◌, ◌^◌, sym, ap, ◌∙◌, arith}
use Rattle.std.specs.Prelude.{Some}
use Rattle.scan_core.proofs.FrameSets.{no_run, run_lowest}
use Rattle.scan_core.proofs.FreeRuns.{all_by, not_all}
use Rattle.scan_core.proofs.Orders.{run_within}
use Rattle.scan_core.proofs.whole_runs.WholeRuns.first.Goals as goal

pub returns-in_err-run : goal.returns-in_err-run
returns-in_err-run c = λ p whole.
    c.from_residual.ensures
    ∙ sym (no_run p c.args.self.now.blocks c.args.order c.frames-frames.ensures.low c.frames-frames.ensures.high (λ k within. not_all p c.args.order k (c.in_err-run.ensures.next p whole k (omega arith) within)))

pub overflow_mul-result : goal.overflow_mul-result
overflow_mul-result c =
    let fits = run_within c.args.order c.frames-frames.ensures.low c.frames-frames.ensures.high c.args.self.now.blocks c.in_ok-run.run' c.in_ok-run.ensures.within in
    let same : c.in_ok-run.run' * c.frames-frames.result ≡ c.in_ok-run.run' * 2 ^ c.args.order = ap (λ (frames : ℕ). c.in_ok-run.run' * frames) c.frames-frames.ensures.value in
    omega (arith, fits, same, c.requires.few)

pub returns : goal.returns
returns c = λ p whole.
    let next = c.in_ok-run.ensures.next p whole in
    ap (λ (frames : ℕ). Some (c.in_ok-run.run' * frames)) c.frames-frames.ensures.value
    ∙ sym (run_lowest p c.args.self.now.blocks c.args.order c.frames-frames.ensures.low c.frames-frames.ensures.high c.in_ok-run.run' next.within (all_by p c.args.order c.in_ok-run.run' next.enough) (λ k below. not_all p c.args.order k (next.fewer k (omega arith) below)))
