use Rattle.std.proofs.Common.{◌≡◌, ℕ, ◌*◌, ◌/◌, ◌^◌, ap, ◌∙◌, arith}
use Rattle.std.specs.FinSet as set
use Rattle.number_set.specs.Runs.{count_in_run}
use Rattle.scan_core.proofs.CountedRuns.{few_numbers, numbers_counted}
use Rattle.scan_core.proofs.whole_runs.WholeRuns.count.Goals as goal

pub count_from-requires : goal.count_from-requires
count_from-requires c =
    let runs_are : 512 * c.args.self.now.blocks / c.frames.result ≡ 512 * c.args.self.now.blocks / 2 ^ c.args.order = ap (λ (frames : ℕ). 512 * c.args.self.now.blocks / frames) c.frames.ensures.value in
    omega (arith, runs_are, few_numbers c.args.self.now.blocks c.args.order c.frames.ensures.low c.frames.ensures.high, c.requires.room)

pub returns : goal.returns
returns c = λ p whole.
    let members = set.contains c.args.self.now.numbers.members in
    let runs_are : 512 * c.args.self.now.blocks / c.frames.result ≡ 512 * c.args.self.now.blocks / 2 ^ c.args.order = ap (λ (frames : ℕ). 512 * c.args.self.now.blocks / frames) c.frames.ensures.value in
    c.count_from.ensures ∙ (λ i. count_in_run members (runs_are i) (runs_are i))
    ∙ numbers_counted c.args.self.now.blocks c.args.order c.frames.ensures.low c.frames.ensures.high p members
    (λ run within. whole c.args.order run c.frames.ensures.low c.frames.ensures.high within)
