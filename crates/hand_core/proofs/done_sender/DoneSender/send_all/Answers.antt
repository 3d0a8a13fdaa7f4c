use Rattle.std.proofs.Common.{◌<◌, ◌≤◌, All, length, ap, sym, ◌∙◌, subst}
use Rattle.std.proofs.lemmas.List.Elements.{All-push}
use Rattle.crossbeam_channel.specs.Claims.{view}
use Rattle.hand_core.specs.declared.copy_queue.Account.{Account}
use Rattle.hand_core.specs.CopyEnds.{DoneSender}
use Rattle.hand_core.specs.Batches.{Batch}
use Rattle.hand_core.proofs.CopySteps.{copies_go_in}
use Rattle.hand_core.proofs.Hands.{fits}
use Rattle.hand_core.proofs.done_sender.DoneSender.send_all.Goals as goal

pub send-requires-clause-rule : goal.send-requires-clause-rule
send-requires-clause-rule g c =
    let k = c.self.invariant in
    (copies_go_in _ _ _ c.self.inside.number c.args.copies k.sends k.sender (k.fresh (ap (λ (s : DoneSender). s.closed) c.self.view_is ∙ c.requires.open)), λ items views rule at. tt)

pub invariant_of-self : goal.invariant_of-self
invariant_of-self g c =
    let s = c.self.inside in
    let k = c.self.invariant in
    let e = c.in_default.ensures.rule in
    let few = subst (λ (v : DoneSender). 1 < length c.args.copies.items → length c.args.copies.items ≤ v.most) (sym c.self.view_is) c.requires.few in
    record {
      seat = c.in_default.ensures.channel.0;
      sends = ap (λ (v : Account). v.sends) e ∙ k.sends;
      sender = ap (λ (v : Account). v.sender) e ∙ k.sender;
      small = subst (All (λ (h : Batch). length h.items ≤ s.most)) (sym (ap (λ (v : Account). v.sent) e))
          (All-push (λ (h : Batch). length h.items ≤ s.most) (view s.pass).sent c.args.copies k.small (fits (length c.args.copies.items) s.most k.some.0 few));
      some = k.some;
      fresh = λ still. ap (λ (v : Account). v.marked) e ∙ k.fresh still;
    }
