use Rattle.std.proofs.Common.{◌*◌, ◌/◌, refl, ◌∙◌, arith}
use Rattle.std.specs.FinSet as set
use Rattle.scan_core.proofs.HeapSteps.{came, came_few, came_fills, eight_aligned, tests_run, unchanged}
use Rattle.scan_core.proofs.WholeRuns.{of_orders, to_orders}
use Rattle.scan_core.proofs.whole_runs.WholeRuns.insert_frame.Goals as goal

pub insert-requires : goal.insert-requires
insert-requires c = record {
  «open» = c.requires.open;
  order = (omega arith, omega arith);
  aligned = eight_aligned c.args.frame;
  within = omega (arith, c.requires.within);
}

pub returns-then-has_run-clause-whole : goal.returns-then-has_run-clause-whole
returns-then-has_run-clause-whole c = λ p whole each.
    let has = set.contains c.args.numbers.now.members in
    let all = tests_run has (c.args.frame / 8 * 8) 8 c.has_run.result c.has_run.ensures.0 c.has_run.ensures.1 ∙ c.if-has_run.true in
    c.insert.ensures.whole p has whole (came_fills c.args.frame p has each all)

pub returns-else-has_run-clause-whole : goal.returns-else-has_run-clause-whole
returns-else-has_run-clause-whole c = λ p whole each.
    let blocks = c.args.self.now.blocks in
    let first = c.args.frame / 8 * 8 in
    let member = set.contains c.args.self.now.numbers.members in
    let has = set.contains c.args.numbers.now.members in
    let few = tests_run has first 8 c.has_run.result c.has_run.ensures.0 c.has_run.ensures.1 ∙ c.if-has_run.false in
    to_orders blocks has member (unchanged blocks first 3 (omega arith) (omega arith) (eight_aligned c.args.frame) p has member (of_orders blocks p member whole) (came c.args.frame p has each) refl (came_few c.args.frame p has each few) few)
