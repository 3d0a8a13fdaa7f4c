use Rattle.std.proofs.Common.{rules, ◌≡◌, ◌∙◌, Some}
use Rattle.std.proofs.lemmas.List.Elements.{All-pop, All-push, All-same}
use Rattle.round_core.proofs.Lists.{listed_more, both}
use Rattle.round_core.proofs.crew.join_copiers.Goals as goal

pub loop-copier-preserved : goal.loop-copier-preserved
loop-copier-preserved g c =
    let old = c.loop-copier.invariant in
    let joined = c.loop-copier.joined in
    let copier = All-pop (λ k. k.promise.taker.value.hand_over ≡ c.args.giver.now.hand_over) c.loop-copier.copiers.items c.pop.new.self.items (Some c.in-Some.copier) c.in-Some.ensures.items old.copiers in
    record {
      copiers = copier.0;
      room = search rules;
      room_of_lists = search rules;
      joined = record {
        takers = All-same (λ t. t.hand_over ≡ c.args.giver.now.hand_over) c.push_reserved.new.self.items _ c.push_reserved.ensures.items
            (All-push (λ t. t.hand_over ≡ c.args.giver.now.hand_over) joined.takers.items c.join-taker.result.taker old.joined.takers
            (c.join-taker.ensures.hand_over ∙ copier.1));
        listed = λ whole. (let each = both joined.whole c.join-taker.result.whole whole in
            listed_more (λ v. v.items) joined.lists.items c.push_reserved-in-Some.new.self.items joined.takers.items c.push_reserved.new.self.items
            c.join-taker.result.serials c.join-taker.result.taker c.push_reserved-in-Some.ensures.items c.push_reserved.ensures.items (c.join-taker.ensures.serials each.1) (old.joined.listed each.0));
      };
      lists = search rules;
    }
