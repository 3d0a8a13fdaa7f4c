use Rattle.std.proofs.Common.{◌≡◌, ℕ, ◌-◌, ◌<◌, List, inl, inr, ap, sym, ◌∙◌, slice_index, arith}
use Rattle.std.specs.Prelude.{length}
use Rattle.scan_core.proofs.Tallying.{all_of, half_fewer, none_of, not_all_of, some_now, some_of, tallied_then, whole_now}
use Rattle.scan_core.proofs.frame_counts.FrameCounts.fewer.Goals as goal
use Rattle.scan_core.proofs.frame_counts.FrameCounts.fewer.Goals.{then-count-eq0, else-count-eq0}

pub overflow_sub-self : goal.overflow_sub-self
overflow_sub-self c =
    let now = c.get-before.result - c.args.frames in
    let at : slice_index c.self.inside.counts.items c.args.block ≡ c.get-before.result = ap (λ (xs : List ℕ). slice_index xs c.args.block) c.self.view_is ∙ sym c.get-before.ensures.count in
    let within : c.args.block < length c.self.inside.counts.items = omega (arith, ap length c.self.view_is, c.requires.within) in
    omega (arith, some_now c.self.inside c.args.block now within c.self.invariant, none_of now c.if-count-eq0.true, some_of (slice_index c.self.inside.counts.items c.args.block) (omega (arith, at, c.get-before.ensures.count, c.requires.counted, c.requires.some)))

pub overflow_sub-self-then-before-eq512 : goal.overflow_sub-self-then-before-eq512
overflow_sub-self-then-before-eq512 c =
    let now = c.get-before.result - c.args.frames in
    let at : slice_index c.self.inside.counts.items c.args.block ≡ c.get-before.result = ap (λ (xs : List ℕ). slice_index xs c.args.block) c.self.view_is ∙ sym c.get-before.ensures.count in
    let within : c.args.block < length c.self.inside.counts.items = omega (arith, ap length c.self.view_is, c.requires.within) in
    let half = half_fewer c.self.inside c.args.block now within c.self.invariant c.if-count-eq0.self-inside (omega (arith, at, c.get-before.ensures.count, c.requires.counted, c.requires.some))
    (elim c.if-count-eq0.branch [ then-count-eq0 w ↦ inl (w.if-count-eq0.true, w.self-inside-is) | else-count-eq0 w ↦ inr (w.if-count-eq0.false, w.self-inside-is) ]) in
    omega (arith, half.whole, whole_now c.self.inside c.args.block now within c.self.invariant, all_of (slice_index c.self.inside.counts.items c.args.block) (at ∙ c.if-before-eq512.true), not_all_of now (λ e. absurd (omega (arith, e, c.if-before-eq512.true, c.requires.some))))

pub invariant_of-self : goal.invariant_of-self
invariant_of-self c =
    let now = c.get-before.result - c.args.frames in
    let at : slice_index c.self.inside.counts.items c.args.block ≡ c.get-before.result = ap (λ (xs : List ℕ). slice_index xs c.args.block) c.self.view_is ∙ sym c.get-before.ensures.count in
    let within : c.args.block < length c.self.inside.counts.items = omega (arith, ap length c.self.view_is, c.requires.within) in
    let half = half_fewer c.self.inside c.args.block now within c.self.invariant c.if-count-eq0.self-inside (omega (arith, at, c.get-before.ensures.count, c.requires.counted, c.requires.some))
    (elim c.if-count-eq0.branch [ then-count-eq0 w ↦ inl (w.if-count-eq0.true, w.self-inside-is) | else-count-eq0 w ↦ inr (w.if-count-eq0.false, w.self-inside-is) ]) in
    tallied_then c.self.inside c.args.block now within c.self.invariant c.if-count-eq0.self-inside half (c.if-count-eq0.self-inside.whole - 1) (omega (arith, c.get-before.ensures.most))
    (omega (arith, half.whole, whole_now c.self.inside c.args.block now within c.self.invariant, all_of (slice_index c.self.inside.counts.items c.args.block) (at ∙ c.if-before-eq512.true), not_all_of now (λ e. absurd (omega (arith, e, c.if-before-eq512.true, c.requires.some)))))

pub invariant_of-self-else-before-eq512 : goal.invariant_of-self-else-before-eq512
invariant_of-self-else-before-eq512 c =
    let now = c.get-before.result - c.args.frames in
    let at : slice_index c.self.inside.counts.items c.args.block ≡ c.get-before.result = ap (λ (xs : List ℕ). slice_index xs c.args.block) c.self.view_is ∙ sym c.get-before.ensures.count in
    let within : c.args.block < length c.self.inside.counts.items = omega (arith, ap length c.self.view_is, c.requires.within) in
    let half = half_fewer c.self.inside c.args.block now within c.self.invariant c.if-count-eq0.self-inside (omega (arith, at, c.get-before.ensures.count, c.requires.counted, c.requires.some))
    (elim c.if-count-eq0.branch [ then-count-eq0 w ↦ inl (w.if-count-eq0.true, w.self-inside-is) | else-count-eq0 w ↦ inr (w.if-count-eq0.false, w.self-inside-is) ]) in
    tallied_then c.self.inside c.args.block now within c.self.invariant c.if-count-eq0.self-inside half c.if-count-eq0.self-inside.whole (omega (arith, c.get-before.ensures.most))
    (omega (arith, not_all_of (slice_index c.self.inside.counts.items c.args.block) (λ e. c.if-before-eq512.false (sym at ∙ e)), not_all_of now (λ e. absurd (omega (arith, e, c.get-before.ensures.most, c.requires.some)))))
