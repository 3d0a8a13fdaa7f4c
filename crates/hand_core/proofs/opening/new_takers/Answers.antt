use Rattle.std.proofs.Common.{◌≡◌, ◌-◌, false, [], All, sym, ap, ◌∙◌, subst, arith}
use Rattle.std.proofs.lemmas.List.Elements.{All-push}
use Rattle.crossbeam_channel.specs.Ends.{sends_on}
use Rattle.hand_core.specs.declared.page_queue.Known.{Known}
use Rattle.hand_core.specs.PageEnds.{Taker}
use Rattle.hand_core.specs.Batches.{before_hand}
use Rattle.hand_core.specs.PageQueue.{giver_knows}
use Rattle.hand_core.specs.Queue.{name_of}
use Rattle.hand_core.proofs.PageSteps.{cuts}
use Rattle.hand_core.proofs.opening.new_takers.Goals as goal

pub another-theirs-requires-clause-rule : goal.another-theirs-requires-clause-rule
another-theirs-requires-clause-rule c = let shares = c.loop-taker.invariant.shares in cuts _ _ (omega arith)

pub loop-taker-preserved : goal.loop-taker-preserved
loop-taker-preserved c =
    let old = c.loop-taker.invariant in
    let e = c.another-theirs.ensures.rule.0 in
    let shares_now = ap (λ (v : Known). v.shares) e in
    let shares_was = old.shares in
    let made = old.made in
    let room = old.room in
    let pushed = c.push_reserved.ensures in
    let len = pushed.len in
    let capacity = pushed.capacity in
    let channel = c.in_ok-from.ensures ∙ c.requires.channel.0 in
    let none = ap (λ (v : Known). v.off) c.another-theirs.ensures.rule.1 in
    let hand = c.into_iter.ensures.into_iter_gives.0 ∙ c.new.ensures in
    let Fresh : Taker → Type 0 = λ t. t ≡ record { hand_over = name_of (sends_on c.args.to.now); taken = []; in_hand = []; ended = false } in
    record {
      seat = c.another-theirs.ensures.channel.0;
      shares = omega arith;
      knows = e ∙ ap (λ (v : Known). record v { shares = v.shares - 1 }) old.knows ∙ ap (λ n. record giver_knows { shares = n }) (sym shares_now);
      made = omega arith;
      room = omega arith;
      fresh = subst (λ l. All Fresh l) (sym pushed.items) (All-push Fresh c.loop-taker.all.items _ old.fresh (λ i. record { hand_over = name_of (channel i); taken = before_hand (none i) (hand i); in_hand = hand i; ended = false }));
    }
