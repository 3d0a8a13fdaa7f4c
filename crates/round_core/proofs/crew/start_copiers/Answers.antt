use Rattle.std.proofs.Common.{rules, arith, ◌≡◌, ◌∙◌, ap, refl, Some, []}
use Rattle.std.proofs.lemmas.List.Elements.{All-pop, All-push, All-same}
use Rattle.hand_core.specs.PageEnds.{Taker}
use Rattle.round_core.specs.Crews.{IsUnused, IsUnsent}
use Rattle.round_core.proofs.crew.start_copiers.Goals as goal

pub start_copier-requires : goal.start_copier-requires
start_copier-requires g c =
    let old = c.loop-taker.invariant in
    let copier_parts = c.loop-taker.copier_parts in
    let taker = All-pop (IsUnused c.args.copier_parts.now.giver.hand_over) copier_parts.takers.items c.pop.new.self.items (Some c.in-Some.taker) c.in-Some.ensures.items old.takers in
    let sender = All-pop IsUnsent copier_parts.senders.items c.pop-in-Some.new.self.items (Some c.in-Some-pop.sender) c.in-Some-pop.ensures.items old.senders in
    let list = All-pop (λ v. v.items ≡ []) copier_parts.serials.items c.pop-in-Some-2.new.self.items (Some c.in-Some-pop-2.list) c.in-Some-pop-2.ensures.items old.lists in
    (c.type_bounds.sync-G, (c.type_bounds.sync-R, (record { of_it = refl; open_still = taker.1.open_still; none = taker.1.none }, (sender.1, list.1))))

pub unreachable-requires : goal.unreachable-requires
unreachable-requires g c = omega (arith, c.loop-taker.invariant.as_many_senders, c.in-Some.ensures.cases, c.in_default-pop.ensures.cases.0)

pub unreachable-requires-in_default-pop-2 : goal.unreachable-requires-in_default-pop-2
unreachable-requires-in_default-pop-2 g c = omega (arith, c.loop-taker.invariant.as_many_lists, c.in-Some.ensures.cases, c.in_default-pop-2.ensures.cases.0)

pub push_reserved-requires : goal.push_reserved-requires
push_reserved-requires g c = omega (arith, c.loop-taker.invariant.started, c.loop-taker.invariant.room, c.in-Some.ensures.cases)

pub loop-taker-preserved : goal.loop-taker-preserved
loop-taker-preserved g c =
    let old = c.loop-taker.invariant in
    let copier_parts = c.loop-taker.copier_parts in
    let hand_over = c.args.copier_parts.now.giver.hand_over in
    let taker = All-pop (IsUnused hand_over) copier_parts.takers.items c.pop.new.self.items (Some c.in-Some.taker) c.in-Some.ensures.items old.takers in
    let sender = All-pop IsUnsent copier_parts.senders.items c.pop-in-Some.new.self.items (Some c.in-Some-pop.sender) c.in-Some-pop.ensures.items old.senders in
    let list = All-pop (λ v. v.items ≡ []) copier_parts.serials.items c.pop-in-Some-2.new.self.items (Some c.in-Some-pop-2.list) c.in-Some-pop-2.ensures.items old.lists in
    record {
      giver = search rules;
      copiers = All-same (λ k. k.promise.taker.value.hand_over ≡ hand_over) c.push_reserved.new.self.items _ c.push_reserved.ensures.items
          (All-push (λ k. k.promise.taker.value.hand_over ≡ hand_over) copier_parts.copiers.items c.in_ok-copier.copier old.copiers
          (ap (λ (t : Taker). t.hand_over) c.in_ok-copier.ensures ∙ taker.1.of_it));
      started = search rules;
      room = search rules;
      takers = taker.0;
      as_many_senders = search rules;
      senders = sender.0;
      as_many_lists = search rules;
      lists = list.0;
    }
