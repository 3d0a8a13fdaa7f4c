use Rattle.std.proofs.Common.{ℕ, List, sym, ap, length, lt-ltb, ◌∙◌, arith}
use Rattle.frame_core.specs.Below.{count_below}
use Rattle.scan_core.specs.FrameCounts.{is_some_counted}
use Rattle.scan_core.specs.Frames.{true_at}
use Rattle.scan_core.proofs.Tallying.{none_found, one_found}
use Rattle.scan_core.proofs.frame_counts.FrameCounts.has_some_unmarked.Goals as goal

pub returns-then-self-eq0 : goal.returns-then-self-eq0
returns-then-self-eq0 c =
    let counted = ap (λ (counts : List ℕ). count_below (is_some_counted counts) (length counts)) c.self.view_is in
    sym (none_found (is_some_counted c.args.self.now) (true_at c.args.marks.now) (length c.args.self.now) (omega (arith, counted, c.self.invariant.some, c.if-self-eq0.true)))

pub returns-then-self-count : goal.returns-then-self-count
returns-then-self-count c =
    let counted = ap (λ (counts : List ℕ). count_below (is_some_counted counts) (length counts)) c.self.view_is in
    lt-ltb c.count.result c.self.inside.some c.if-self-count.true
    ∙ sym (one_found (is_some_counted c.args.self.now) (true_at c.args.marks.now) (length c.args.self.now) (length c.args.marks.now) c.requires (omega (arith, counted, c.self.invariant.some, c.count.ensures, c.if-self-count.true)))
