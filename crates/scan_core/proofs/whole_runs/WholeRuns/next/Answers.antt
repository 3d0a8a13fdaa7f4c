use Rattle.std.proofs.Common.{◌≡◌, ℕ, ◌+◌, ◌-◌, ◌*◌, ◌/◌, ◌^◌, ap, subst, sym, arith}
use Rattle.std.specs.FinSet as set
use Rattle.scan_core.specs.FreeRuns.{free_in_run, IsNextWith}
use Rattle.scan_core.proofs.CountedRuns.{few_numbers}
use Rattle.scan_core.proofs.FreeRuns.{first_whole, none_whole}
use Rattle.scan_core.proofs.whole_runs.WholeRuns.next.Goals as goal

pub at_or_after-requires : goal.at_or_after-requires
at_or_after-requires c =
    let runs_are : 512 * c.args.self.now.blocks / c.frames.result ≡ 512 * c.args.self.now.blocks / 2 ^ c.args.order = ap (λ (frames : ℕ). 512 * c.args.self.now.blocks / frames) c.frames.ensures.value in
    omega (arith, runs_are, few_numbers c.args.self.now.blocks c.args.order c.frames.ensures.low c.frames.ensures.high, c.if-from-runs.false, c.requires.room)

pub returns-in_err-number-clause-next : goal.returns-in_err-number-clause-next
returns-in_err-number-clause-next c = λ p whole.
    let runs = 512 * c.args.self.now.blocks / 2 ^ c.args.order in
    let runs_are : 512 * c.args.self.now.blocks / c.frames.result ≡ runs = ap (λ (frames : ℕ). 512 * c.args.self.now.blocks / frames) c.frames.ensures.value in
    subst (IsNextWith (free_in_run p c.args.order) runs c.args.from (2 ^ c.args.order)) (sym c.from_residual.ensures)
    (none_whole p c.args.order runs (set.contains c.args.self.now.numbers.members) (λ run within. whole c.args.order run c.frames.ensures.low c.frames.ensures.high within) c.args.from (runs + runs) (omega arith)
    (λ k low high. c.in_err-number.ensures.next k (omega (arith, low, runs_are))))

pub returns-then-run-runs-clause-next : goal.returns-then-run-runs-clause-next
returns-then-run-runs-clause-next c = λ p whole.
    let runs = 512 * c.args.self.now.blocks / 2 ^ c.args.order in
    let runs_are : 512 * c.args.self.now.blocks / c.frames.result ≡ runs = ap (λ (frames : ℕ). 512 * c.args.self.now.blocks / frames) c.frames.ensures.value in
    none_whole p c.args.order runs (set.contains c.args.self.now.numbers.members) (λ run within. whole c.args.order run c.frames.ensures.low c.frames.ensures.high within) c.args.from c.in_ok-number.number (omega (arith, runs_are, c.if-run-runs.true))
    (λ k low high. c.in_ok-number.ensures.next.between k (omega (arith, low, runs_are)) high)

pub returns-clause-next : goal.returns-clause-next
returns-clause-next c = λ p whole.
    let runs = 512 * c.args.self.now.blocks / 2 ^ c.args.order in
    let runs_are : 512 * c.args.self.now.blocks / c.frames.result ≡ runs = ap (λ (frames : ℕ). 512 * c.args.self.now.blocks / frames) c.frames.ensures.value in
    let least = c.in_ok-number.ensures.next.least in
    first_whole p c.args.order runs (set.contains c.args.self.now.numbers.members) (λ run within. whole c.args.order run c.frames.ensures.low c.frames.ensures.high within) c.args.from (c.in_ok-number.number - 512 * c.args.self.now.blocks / c.frames.result) c.in_ok-number.number
    (omega (arith, runs_are, least)) (omega (arith, runs_are, least)) (omega (arith, runs_are, c.if-run-runs.false)) c.in_ok-number.ensures.next.passes
    (λ k low high. c.in_ok-number.ensures.next.between k (omega (arith, low, runs_are)) high)
