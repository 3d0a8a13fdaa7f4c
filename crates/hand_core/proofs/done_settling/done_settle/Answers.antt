use Rattle.std.proofs.Common.{◌≡◌, ℕ, ◌+◌, ◌<◌, ◌++◌, ◌∷◌, [], List, Some, true, ap, sym, ◌∙◌, subst, append_assoc, arith}
use Rattle.crossbeam_channel.specs.Claims.{view}
use Rattle.hand_core.specs.declared.copy_queue.Account.{Account}
use Rattle.hand_core.specs.declared.copy_queue.Message.{Message}
use Rattle.hand_core.specs.CopyEnds.{DoneSender, DoneTaker, copies_of, has_ended, has_mark}
use Rattle.hand_core.specs.Batches.{pages_of}
use Rattle.hand_core.specs.CopyQueue.{Tells}
use Rattle.hand_core.proofs.Messages.{all_came, each_passes}
use Rattle.std.proofs.lemmas.List.Elements.{All-cons, All-pop}
use Rattle.hand_core.proofs.CopySteps.{folds, tells, all_received}
use Rattle.hand_core.proofs.done_settling.done_settle.Goals as goal

pub absorb-requires-clause-rule : goal.absorb-requires-clause-rule
absorb-requires-clause-rule c = folds _ _ _ _ c.loop-sender.invariant.takes c.sender.invariant.sends

pub learn_as-requires-clause-rule : goal.learn_as-requires-clause-rule
learn_as-requires-clause-rule c =
    let e = c.absorb.ensures.rule in
    tells _ _ (ap (λ (v : Account). v.takes) e ∙ c.loop-sender.invariant.takes) (ap (λ (v : Account). v.sends) e)

-- each sender's mark was received
each_marked : (taker : DoneTaker) → has_ended taker ≡ true → (k : ℕ) → k < taker.senders → has_mark taker.came k ≡ true
each_marked taker ended k low = let zero_more : k ≡ 0 + k = omega arith in ap (has_mark taker.came) zero_more ∙ each_passes (has_mark taker.came) 0 taker.senders k ended low

-- what was learned of one sender, under its own names
compared : (taker : DoneTaker) (s : DoneSender) (w : Account) (queue : List Message) → ((k : ℕ) → k < taker.senders → has_mark taker.came k ≡ true)
    → w.came ≡ taker.came → w.made ≡ taker.senders → w.sender ≡ s.number → pages_of w.sent ≡ s.sent → Tells w queue → copies_of s.number taker.came ≡ s.sent
compared taker s w queue marked is_came is_made is_number is_sent told =
    let low : w.sender < taker.senders = subst (λ n. w.sender < n) is_made told.0 in
    let has : has_mark w.came w.sender ≡ true = subst (λ l. has_mark l w.sender ≡ true) (sym is_came) (marked w.sender low) in
    subst (λ k. copies_of k taker.came ≡ s.sent) is_number (subst (λ l. copies_of w.sender l ≡ s.sent) is_came (all_came w w.came queue told.1 has ∙ is_sent))

pub loop-sender-preserved : goal.loop-sender-preserved
loop-sender-preserved c =
    let old = c.loop-sender.invariant in
    let taker = c.args.taker in
    let s = c.in-Some.sender in
    let is = c.sender.view_is in
    let e = c.absorb.ensures.rule in
    let kept = c.learn_as.ensures.channel.2 in
    let told = c.learn_as.ensures.rule in
    let items = c.in-Some.ensures.items in
    let before = old.back in
    let Left : DoneSender → Type 0 = λ u. u.queue ≡ taker.queue in
    let left = All-pop Left c.loop-sender.senders.items c.pop.new.self.items (Some s) items old.left in
    let own : s.queue ≡ taker.queue = left.1 in
    let came : (view c.absorb.new.pass).came ≡ taker.came = ap (λ (v : Account). v.came) e ∙ old.came in
    let made : (view c.absorb.new.pass).made ≡ taker.senders = ap (λ (v : Account). v.made) e ∙ old.made in
    let this = compared taker s (view c.absorb.new.pass) told.0 (each_marked taker c.requires.ended) came made
    (ap (λ (v : Account). v.sender) e ∙ c.sender.invariant.sender ∙ ap (λ (u : DoneSender). u.number) is)
    (ap (λ (v : Account). pages_of v.sent) e ∙ ap (λ (u : DoneSender). u.sent) is)
    told.1 in
    let seat = c.learn_as.ensures.channel.0 in
    let queue = is in
    record {
      seat = (
        seat.0 ∙ ap (λ (u : DoneSender). u.queue.0) is ∙ ap (λ w. w.0) own,
        seat.1 ∙ ap (λ (u : DoneSender). u.queue.1) is ∙ ap (λ w. w.1) own,
        seat.2,
      );
      takes = ap (λ (v : Account). v.takes) (kept ∙ e) ∙ old.takes;
      came = ap (λ (v : Account). v.came) kept ∙ came;
      made = ap (λ (v : Account). v.made) kept ∙ made;
      left = left.0;
      back = (
        s ∷ before.0,
        before.1 ∙ ap (λ l. l ++ before.0) items ∙ append_assoc c.pop.new.self.items (s ∷ []) before.0,
        All-cons (λ (u : DoneSender). copies_of u.number taker.came ≡ u.sent) s before.0 this before.2,
      );
    }

pub returns-clause-empty : goal.returns-clause-empty
returns-clause-empty c queue holds =
    let taker = c.args.taker in
    let rule = holds.rule in
    let his = rule.taken holds.number holds.taker holds.at holds.takes in
    let came : taker.came ≡ rule.came = sym holds.came ∙ his.1 in
    let made : rule.made ≡ taker.senders = sym his.2 ∙ holds.made in
    all_received queue holds.ends rule (λ k low. subst (λ l. has_mark l k ≡ true) came (each_marked taker c.requires.ended k (subst (λ n. k < n) made low)))
