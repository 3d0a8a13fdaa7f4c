use Rattle.std.proofs.Common.{◌≡◌, ◌*◌, ◌/◌, ◌^◌, ◌∙◌, ℕ, length, ap, subst, arith}
use Rattle.scan_core.specs.Frames.{Frames, free_at}
use Rattle.scan_core.specs.FreeRuns.{free_in_run, IsNextWith}
use Rattle.scan_core.proofs.FreeRuns.{next_same}
use Rattle.scan_core.proofs.Sounding.{frames_kept, free_counted_in}
use Rattle.scan_core.proofs.frames.Frames.next_run_with.Goals as goal

pub returns : goal.returns
returns c =
    let frames : c.self.inside.free.bound ≡ length c.args.self.now.states = omega (arith, c.self.invariant.free_room, frames_kept c.self.inside c.self.invariant c.self.view_is) in
    let runs_are = ap (λ (n : ℕ). n / 2 ^ c.args.order) frames in
    let counted = λ (run : ℕ). free_counted_in c.self.inside c.self.invariant (2 ^ c.args.order * run) (2 ^ c.args.order) ∙ ap (λ (frames : Frames). free_in_run (free_at frames.states) c.args.order run) c.self.view_is in
    subst (λ (n : ℕ). IsNextWith (free_in_run (free_at c.args.self.now.states) c.args.order) n c.args.from c.args.least c.next_run_with.result) runs_are
    (next_same _ _ (c.self.inside.free.bound / 2 ^ c.args.order) c.args.from c.args.least (λ k within. counted k) c.next_run_with.result c.next_run_with.ensures)
