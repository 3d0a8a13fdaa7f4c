use Rattle.std.proofs.Common.{◌≡◌, ◌∙◌, ap, length, true, subst, ℕ, Bool}
use Rattle.std.specs.Prelude.{IfSome}
use Rattle.frame_core.specs.Below.{lowest}
use Rattle.scan_core.specs.Frames.{Frames, free_at}
use Rattle.scan_core.proofs.Sounding.{lowest_counted, if_some_within, free_is}
use Rattle.scan_core.proofs.frames.Frames.lowest_free.Goals as goal

pub returns : goal.returns
returns c =
    let z = c.self.inside in
    let same = free_is z c.self.invariant ∙ ap (λ (frames : Frames). free_at frames.states) c.self.view_is in
    let member = subst (λ (p : ℕ → Bool). IfSome c.lowest.result (λ frame. p frame ≡ true)) same c.lowest.ensures.member in
    record {
      lowest = c.lowest.ensures.lowest ∙ lowest_counted z c.self.invariant ∙ ap (λ (frames : Frames). lowest (free_at frames.states) (length frames.states)) c.self.view_is;
      free = member;
      within = if_some_within c.args.self.now.states c.lowest.result member;
    }
