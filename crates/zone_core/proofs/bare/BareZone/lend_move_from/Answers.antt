use Rattle.std.proofs.Common.{rules, ◌≡◌, ◌∙◌, ◌^◌, Bool, true, cond, ap, subst, sym, arith, Some, None, IsSome}
use Rattle.fewest_core.specs.Claims.{highest_vacant, next_to_go}
use Rattle.fewest_core.specs.FewestMoves.{IsMove}
use Rattle.state_core.specs.declared.error.ZoneError.TheVariants.{JournalFull}
use Rattle.state_core.specs.Isolating.{has_room_for_two, isolate_refusal}
use Rattle.state_core.specs.Pairs.{holder}
use Rattle.state_core.specs.ZoneState.{ZoneState, frame_count}
use Rattle.zone_core.proofs.Stepping.{may_move, page_there, source_within}
use Rattle.zone_core.proofs.bare.BareZone.lend_move_from.Goals as goal

pub holder-requires : goal.holder-requires
holder-requires g c =
    let z = c.self.inside.tables.value in
    let next : next_to_go c.args.first (2 ^ c.args.order) z ≡ Some c.in-Some.source = sym (c.next_to_go.ensures ∙ ap (next_to_go c.args.first (2 ^ c.args.order)) c.deref-3.ensures) ∙ c.in-Some.is in
    let vacant : highest_vacant z ≡ Some c.in-Some-highest_vacant.target = sym (c.highest_vacant.ensures ∙ ap highest_vacant c.deref-4.ensures) ∙ c.in-Some-highest_vacant.is in
    let count = ap frame_count c.deref-5.ensures in
    (omega arith, omega (arith, count, source_within c.args.first (2 ^ c.args.order) z c.self.invariant c.in-Some.source c.in-Some-highest_vacant.target next vacant))

pub unreachable-requires : goal.unreachable-requires
unreachable-requires g c =
    let z = c.self.inside.tables.value in
    let next : next_to_go c.args.first (2 ^ c.args.order) z ≡ Some c.in-Some.source = sym (c.next_to_go.ensures ∙ ap (next_to_go c.args.first (2 ^ c.args.order)) c.deref-3.ensures) ∙ c.in-Some.is in
    let vacant : highest_vacant z ≡ Some c.in-Some-highest_vacant.target = sym (c.highest_vacant.ensures ∙ ap highest_vacant c.deref-4.ensures) ∙ c.in-Some-highest_vacant.is in
    let there = page_there c.args.first (2 ^ c.args.order) z c.self.invariant c.in-Some.source c.in-Some-highest_vacant.target next vacant in
    c.in_default-holder.not-Some there.0 (c.holder.ensures.holder ∙ ap (λ (u : ZoneState). holder u c.in-Some.source) c.deref-5.ensures ∙ there.1)

pub send-requires : goal.send-requires
send-requires g c =
    let z = c.self.inside.tables.value in
    let same : c.deref_mut.result.now ≡ z = c.deref_mut.ensures.value in
    let next : next_to_go c.args.first (2 ^ c.args.order) z ≡ Some c.in-Some.source = sym (c.next_to_go.ensures ∙ ap (next_to_go c.args.first (2 ^ c.args.order)) c.deref-3.ensures) ∙ c.in-Some.is in
    let vacant : highest_vacant z ≡ Some c.in-Some-highest_vacant.target = sym (c.highest_vacant.ensures ∙ ap highest_vacant c.deref-4.ensures) ∙ c.in-Some-highest_vacant.is in
    let holds : holder z c.in-Some.source ≡ Some c.in-Some-holder.page = sym (c.holder.ensures.holder ∙ ap (λ (u : ZoneState). holder u c.in-Some.source) c.deref-5.ensures) ∙ c.in-Some-holder.is in
    let room : has_room_for_two z ≡ true = ap has_room_for_two (sym c.deref-2.ensures) ∙ sym c.has_room_for_two.ensures ∙ c.if-not-has_room_for_two.false in
    let given : IsSome c.deref_mut.result.now.memory = search rules in (
      omega arith,
      (
        subst (λ (u : ZoneState). IsMove u (record { page = c.in-Some-holder.page; source = c.in-Some.source; target = c.in-Some-highest_vacant.target })) (sym same)
            (may_move c.args.first (2 ^ c.args.order) z c.self.invariant c.in-Some.source c.in-Some-highest_vacant.target next vacant c.in-Some-holder.page holds),
        (ap isolate_refusal same ∙ ap (λ (b : Bool). cond b None (Some JournalFull)) room, given),
      ),
    )
