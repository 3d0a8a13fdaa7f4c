use Rattle.std.proofs.Common.{◌≡◌, ◌+◌, ◌++◌, ◌≤◌, ◌<◌, length, ap, sym, ◌∙◌, subst, length-append, arith}
use Rattle.std.proofs.Math.Nat.{max-le}
use Rattle.crossbeam_channel.specs.Claims.{view}
use Rattle.hand_core.specs.declared.page_queue.Known.{Known}
use Rattle.hand_core.specs.declared.page_queue.Note.TheVariants.{Pages}
use Rattle.hand_core.specs.Batches.{Batch}
use Rattle.hand_core.specs.PageEnds.{Giver}
use Rattle.hand_core.specs.contracts.giver.Giver.{the_view}
use Rattle.frame_core.specs.Serials.{HasSerialsFrom}
use Rattle.hand_core.proofs.Serials.{serials-append}
use Rattle.hand_core.proofs.Hands.{fits}
use Rattle.hand_core.proofs.PageSteps.{pages_in}
use Rattle.hand_core.proofs.giver.Giver.give_all.Goals as goal

pub serial_after-after-requires : goal.serial_after-after-requires
serial_after-after-requires g c =
    let k = c.self.invariant in
    subst (λ l. HasSerialsFrom c.self.inside.next l) (sym c.deref.ensures.0)
    (subst (λ n. HasSerialsFrom n c.args.pages.items) (ap (λ (v : Giver). v.base + length v.given) (sym c.self.view_is) ∙ k.next) c.requires.next)

pub send-requires-clause-rule : goal.send-requires-clause-rule
send-requires-clause-rule g c =
    let s = c.self.inside in
    let k = c.self.invariant in
    let is = c.self.view_is in (
      pages_in _ _ (view s.pass) c.args.pages s.base k.gives (k.marked ∙ k.fresh (ap (λ (v : Giver). v.closed) is ∙ c.requires.open)) k.serials
          (subst (λ (v : Giver). HasSerialsFrom (v.base + length v.given) c.args.pages.items) (sym is) c.requires.next),
      λ items views rule at. tt,
    )

pub invariant_of-self : goal.invariant_of-self
invariant_of-self g c =
    let s = c.self.inside in
    let k = c.self.invariant in
    let e = c.in_default.ensures.rule in
    let next : HasSerialsFrom (s.base + length (view s.pass).given) c.args.pages.items =
    subst (λ (v : Giver). HasSerialsFrom (v.base + length v.given) c.args.pages.items) (sym c.self.view_is) c.requires.next in
    let counted = k.next in
    let after = c.serial_after-after.ensures in
    let longer = length-append (view s.pass).given c.args.pages.items in
    let same_length = ap (λ l. length l) c.deref.ensures.0 in
    let length_now = ap (λ (v : Known). length v.given) e in
    record {
      seat = c.in_default.ensures.channel.0;
      gives = ap (λ (v : Known). v.gives) e ∙ k.gives;
      serials = subst (HasSerialsFrom s.base) (sym (ap (λ (v : Known). v.given) e)) (serials-append s.base (view s.pass).given c.args.pages.items k.serials next);
      next = omega arith;
      few = k.few;
      shares = ap (λ (v : Known). v.shares + s.takers) e ∙ k.shares;
      marked = ap (λ (v : Known). v.marks) e ∙ k.marked;
      largest = subst (λ n. n ≤ s.most) (sym (ap (λ (v : Known). v.largest) e)) (max-le k.largest (fits (length c.args.pages.items) s.most k.some.0 (subst (λ (v : Giver). 1 < length c.args.pages.items → length c.args.pages.items ≤ v.most) (sym c.self.view_is) c.requires.few)));
      some = k.some;
      fresh = k.fresh;
      took_nothing = (ap (λ (v : Known). v.off) e ∙ k.took_nothing.0, ap (λ (v : Known). v.ended) e ∙ k.took_nothing.1);
    }

pub returns-in_default-clause-ok : goal.returns-in_default-clause-ok
returns-in_default-clause-ok g c =
    ap (λ (v : Known). record (the_view c.self.inside) { given = v.given; marks = v.marks }) c.in_default.ensures.rule
    ∙ ap (λ (v : Giver). record v { given = v.given ++ c.args.pages.items }) c.self.view_is

same_pages : (a b : Batch) → Pages a ≡ Pages b → a ≡ b
same_pages a b is = cc

pub returns-clause-back : goal.returns-clause-back
returns-clause-back g c = same_pages c.in-Pages.pages c.args.pages (sym c.in-Pages.is ∙ c.in-Err.ensures.rule.0)
