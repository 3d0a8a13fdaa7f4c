use Rattle.std.proofs.Common.{◌∙◌, ◌<◌, ◌^◌, subst, sym, arith}
use Rattle.keeper_thread.proofs.Stepping.{same_keeper, within}
use Rattle.keeper_thread.proofs.room.Room.step.Goals as goal
use Rattle.keeper_thread.specs.Working.{worked, IsWithin}

pub invariant_of-self : goal.invariant_of-self
invariant_of-self g c =
    let r = c.self.inside in
    let made = c.step-made in
    let most = c.self.invariant.2 in
    let kept = same_keeper r.keeper r.zone r.most made.new.self made.new.zone made.result made.ensures.err made.ensures.ok in
    let before : IsWithin r.most r.work = subst (λ n. IsWithin n r.work) (sym most) c.self.invariant.3 in
    let fits : r.work.steps < 2 ^ 64 = omega (arith, c.self.ranges) in
    let also : r.work.pages < 2 ^ 64 = omega (arith, c.self.ranges) in
    let after = within r.keeper r.zone r.most made.new.self made.new.zone r.work before fits also made.result made.ensures.ok in (
      kept.0 ∙ c.self.invariant.0,
      kept.1 ∙ c.self.invariant.1,
      most,
      subst (IsWithin g.K.KeeperIdentity.most) (sym c.add.ensures) (subst (λ n. IsWithin n (worked r.work made.result)) most after),
    )
