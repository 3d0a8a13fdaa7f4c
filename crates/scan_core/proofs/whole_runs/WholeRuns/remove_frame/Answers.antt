use Rattle.std.proofs.Common.{◌*◌, ◌/◌, refl, ◌∙◌, arith}
use Rattle.std.specs.FinSet as set
use Rattle.scan_core.proofs.HeapSteps.{went, went_empties, went_few, eight_aligned, tests_run, unchanged}
use Rattle.scan_core.proofs.WholeRuns.{of_orders, to_orders}
use Rattle.scan_core.proofs.whole_runs.WholeRuns.remove_frame.Goals as goal

pub remove-requires : goal.remove-requires
remove-requires c = record {
  «open» = c.requires.open;
  order = (omega arith, omega arith);
  aligned = eight_aligned c.args.frame;
  within = omega (arith, c.requires.within);
}

pub returns-then-has_run-clause-whole : goal.returns-then-has_run-clause-whole
returns-then-has_run-clause-whole c = λ r whole each.
    let has = set.contains c.args.numbers.now.members in
    let all = tests_run has (c.args.frame / 8 * 8) 8 c.has_run.result c.has_run.ensures.0 c.has_run.ensures.1 ∙ c.if-has_run.true in
    c.remove.ensures.whole has r whole (went_empties c.args.frame has r each all)

pub returns-else-has_run-clause-whole : goal.returns-else-has_run-clause-whole
returns-else-has_run-clause-whole c = λ r whole each.
    let blocks = c.args.self.now.blocks in
    let first = c.args.frame / 8 * 8 in
    let member = set.contains c.args.self.now.numbers.members in
    let has = set.contains c.args.numbers.now.members in
    let few = tests_run has first 8 c.has_run.result c.has_run.ensures.0 c.has_run.ensures.1 ∙ c.if-has_run.false in
    to_orders blocks r member (unchanged blocks first 3 (omega arith) (omega arith) (eight_aligned c.args.frame) has r member (of_orders blocks has member whole) (went c.args.frame has r each) refl few (went_few c.args.frame has r each few))
