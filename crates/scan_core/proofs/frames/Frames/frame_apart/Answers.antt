use Rattle.std.proofs.Common.{◌≡◌, ◌∙◌, sym, ap, length, true, subst, ℕ, Bool}
use Rattle.std.specs.Prelude.{IfSome}
use Rattle.scan_core.specs.Apart.{frame_apart, frame_with_unmovable, frame_without_unmovable}
use Rattle.scan_core.specs.Frames.{Frames, free_at}
use Rattle.scan_core.proofs.Sounding.{free_is, if_some_within, with_unmovable_found, without_unmovable_found}
use Rattle.scan_core.proofs.frames.Frames.frame_apart.Goals as goal

pub returns-then-unmovable-clause-frame : goal.returns-then-unmovable-clause-frame
returns-then-unmovable-clause-frame c =
    c.lowest_with_unmovable.ensures.lowest ∙ with_unmovable_found c.self.inside c.self.invariant
    ∙ ap (λ (frames : Frames). frame_with_unmovable (free_at frames.states) frames.unmovable (length frames.states)) c.self.view_is
    ∙ sym (ap (frame_apart c.args.self.now) c.if-unmovable.true)

pub returns-then-unmovable-clause-within : goal.returns-then-unmovable-clause-within
returns-then-unmovable-clause-within c =
    let same = free_is c.self.inside c.self.invariant ∙ ap (λ (frames : Frames). free_at frames.states) c.self.view_is in
    if_some_within c.args.self.now.states c.lowest_with_unmovable.result (subst (λ (p : ℕ → Bool). IfSome c.lowest_with_unmovable.result (λ frame. p frame ≡ true)) same c.lowest_with_unmovable.ensures.member)

pub returns-clause-frame : goal.returns-clause-frame
returns-clause-frame c =
    c.lowest_without_unmovable.ensures.lowest ∙ without_unmovable_found c.self.inside c.self.invariant
    ∙ ap (λ (frames : Frames). frame_without_unmovable (free_at frames.states) frames.unmovable (length frames.states)) c.self.view_is
    ∙ sym (ap (frame_apart c.args.self.now) c.if-unmovable.false)

pub returns-clause-within : goal.returns-clause-within
returns-clause-within c =
    let same = free_is c.self.inside c.self.invariant ∙ ap (λ (frames : Frames). free_at frames.states) c.self.view_is in
    if_some_within c.args.self.now.states c.lowest_without_unmovable.result (subst (λ (p : ℕ → Bool). IfSome c.lowest_without_unmovable.result (λ frame. p frame ≡ true)) same c.lowest_without_unmovable.ensures.member)
