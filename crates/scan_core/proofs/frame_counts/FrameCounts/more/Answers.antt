use Rattle.std.proofs.Common.{◌≡◌, ℕ, ◌+◌, ◌<◌, List, inl, inr, ap, sym, ◌∙◌, slice_index, arith}
use Rattle.std.specs.Prelude.{length}
use Rattle.scan_core.specs.declared.frame_counts.FrameCounts.TheInside.{Inside}
use Rattle.scan_core.proofs.Tallying.{all_of, half_more, not_all_of, some_few, tallied_then, whole_few}
use Rattle.scan_core.proofs.frame_counts.FrameCounts.more.Goals as goal
use Rattle.scan_core.proofs.frame_counts.FrameCounts.more.Goals.{then-before-eq0, else-before-eq0}

pub overflow_add-self : goal.overflow_add-self
overflow_add-self c = omega (arith, some_few c.self.inside c.self.invariant)

pub overflow_add-self-then-count-eq512 : goal.overflow_add-self-then-count-eq512
overflow_add-self-then-count-eq512 c = elim c.if-before-eq0.branch [
  | then-before-eq0 w ↦ omega (arith, whole_few c.self.inside c.self.invariant, ap (λ (half : Inside). half.whole) w.self-inside-is)
  | else-before-eq0 w ↦ omega (arith, whole_few c.self.inside c.self.invariant, ap (λ (half : Inside). half.whole) w.self-inside-is)
]

pub invariant_of-self : goal.invariant_of-self
invariant_of-self c =
    let now = c.get-before.result + c.args.frames in
    let at : slice_index c.self.inside.counts.items c.args.block ≡ c.get-before.result = ap (λ (xs : List ℕ). slice_index xs c.args.block) c.self.view_is ∙ sym c.get-before.ensures.count in
    let within : c.args.block < length c.self.inside.counts.items = omega (arith, ap length c.self.view_is, c.requires.within) in
    let half = half_more c.self.inside c.args.block now within c.self.invariant c.if-before-eq0.self-inside (omega (arith, at, c.requires.some))
    (elim c.if-before-eq0.branch [ then-before-eq0 w ↦ inl (at ∙ w.if-before-eq0.true, w.self-inside-is) | else-before-eq0 w ↦ inr (λ e. w.if-before-eq0.false (sym at ∙ e), w.self-inside-is) ]) in
    tallied_then c.self.inside c.args.block now within c.self.invariant c.if-before-eq0.self-inside half (c.if-before-eq0.self-inside.whole + 1) (omega (arith, c.if-count-eq512.true))
    (omega (arith, all_of now c.if-count-eq512.true, not_all_of (slice_index c.self.inside.counts.items c.args.block) (λ e. absurd (omega (arith, e, at, c.if-count-eq512.true, c.requires.some)))))

pub invariant_of-self-else-count-eq512 : goal.invariant_of-self-else-count-eq512
invariant_of-self-else-count-eq512 c =
    let now = c.get-before.result + c.args.frames in
    let at : slice_index c.self.inside.counts.items c.args.block ≡ c.get-before.result = ap (λ (xs : List ℕ). slice_index xs c.args.block) c.self.view_is ∙ sym c.get-before.ensures.count in
    let within : c.args.block < length c.self.inside.counts.items = omega (arith, ap length c.self.view_is, c.requires.within) in
    let half = half_more c.self.inside c.args.block now within c.self.invariant c.if-before-eq0.self-inside (omega (arith, at, c.requires.some))
    (elim c.if-before-eq0.branch [ then-before-eq0 w ↦ inl (at ∙ w.if-before-eq0.true, w.self-inside-is) | else-before-eq0 w ↦ inr (λ e. w.if-before-eq0.false (sym at ∙ e), w.self-inside-is) ]) in
    tallied_then c.self.inside c.args.block now within c.self.invariant c.if-before-eq0.self-inside half c.if-before-eq0.self-inside.whole (omega (arith, c.get-before.ensures.count, c.requires.most))
    (omega (arith, not_all_of now c.if-count-eq512.false, not_all_of (slice_index c.self.inside.counts.items c.args.block) (λ e. absurd (omega (arith, e, at, c.get-before.ensures.count, c.requires.most, c.requires.some)))))
