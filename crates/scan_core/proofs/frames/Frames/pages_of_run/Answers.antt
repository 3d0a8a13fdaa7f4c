use Rattle.std.proofs.Common.{◌^◌, ◌∙◌, sym, arith}
use Rattle.scan_core.proofs.OpenRuns.{all_open, counts_fit, not_all_open, pages_held}
use Rattle.scan_core.proofs.frames.Frames.pages_of_run.Goals as goal

pub overflow_add-free : goal.overflow_add-free
overflow_add-free c =
    omega (arith, c.frames.ensures.value, counts_fit c.args.self.now c.args.first (2 ^ c.args.order) c.free_in_run-free.result c.movable_in_run-pages.result c.free_in_run-free.ensures c.movable_in_run-pages.ensures)

pub returns-then-frames-free-clause-open : goal.returns-then-frames-free-clause-open
returns-then-frames-free-clause-open c =
    not_all_open c.args.self.now c.args.first (2 ^ c.args.order) c.free_in_run-free.result c.movable_in_run-pages.result c.free_in_run-free.ensures c.movable_in_run-pages.ensures (λ all. c.if-frames-free.true (c.frames.ensures.value ∙ sym all))

pub returns-clause-open : goal.returns-clause-open
returns-clause-open c =
    all_open c.args.self.now c.args.first (2 ^ c.args.order) c.free_in_run-free.result c.movable_in_run-pages.result c.free_in_run-free.ensures c.movable_in_run-pages.ensures (sym c.if-frames-free.false ∙ c.frames.ensures.value)

pub returns-clause-pages : goal.returns-clause-pages
returns-clause-pages c =
    pages_held c.args.self.now c.args.first (2 ^ c.args.order) c.free_in_run-free.result c.movable_in_run-pages.result c.free_in_run-free.ensures c.movable_in_run-pages.ensures (sym c.if-frames-free.false ∙ c.frames.ensures.value)
