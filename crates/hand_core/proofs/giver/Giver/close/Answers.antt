use Rattle.std.proofs.Common.{ap, ◌∙◌, sym, true}
use Rattle.hand_core.specs.PageEnds.{Giver}
use Rattle.hand_core.proofs.giver.Giver.close.Goals as goal

pub loop-taker-init : goal.loop-taker-init
loop-taker-init g c =
    let k = c.self.invariant in
    let none = k.marked ∙ k.fresh (ap (λ (v : Giver). v.closed) c.self.view_is ∙ c.requires) in
    ap (λ (v : Giver). record v { closed = true }) c.self.view_is ∙ ap (λ m. record c.args.self.now { closed = true; marks = m }) (sym (ap (λ (v : Giver). v.marks) c.self.view_is) ∙ none)
