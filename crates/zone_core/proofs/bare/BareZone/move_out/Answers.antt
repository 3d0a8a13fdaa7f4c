use Rattle.std.proofs.Common.{◌≡◌, ◌∙◌, ◌+◌, ◌-◌, ◌^◌, ℕ, ap, subst, sym, arith, Some, None}
use Rattle.std.specs.Prelude.{suc, ◌*◌, ◌&&◌, nat_le}
use Rattle.frame_core.specs.Order.{is_aligned}
use Rattle.fewest_core.specs.Claims.{gone, highest_vacant, next_to_go, pages_gone}
use Rattle.fewest_core.specs.Evacuation.{moved_away}
use Rattle.fewest_core.specs.FewestMoves.{IsMove}
use Rattle.state_core.specs.Claiming.{claimed_at}
use Rattle.state_core.specs.HandingOut.{has_block}
use Rattle.state_core.specs.Isolating.{isolate_refusal}
use Rattle.state_core.specs.Pairs.{holder}
use Rattle.state_core.specs.ZoneState.{ZoneState, frame_count, is_free}
use Rattle.zone_core.specs.Stepping.{IsStepping}
use Rattle.zone_core.proofs.Stepping.{accepted, goes_no_more, goes_out, gone_is, may_move, page_there, room_for_one, source_free, source_within, stepping_begins, stepping_on}
use Rattle.zone_core.proofs.bare.BareZone.move_out.Goals as goal

pub loop-moved-init : goal.loop-moved-init
loop-moved-init g c = record {
  gone = c.self.view_is;
  stepping = subst (λ (u : ZoneState). IsStepping c.args.first (2 ^ c.args.order) c.args.self.now u 0) (sym c.self.view_is) (stepping_begins c.args.first (2 ^ c.args.order) c.args.self.now c.requires.shut);
  most = omega arith;
  valid = c.self.invariant;
}

pub next_to_go-requires : goal.next_to_go-requires
next_to_go-requires g c =
    let now = c.loop-moved.invariant in (
      omega arith,
      ap (λ (u : ZoneState). has_block u c.args.order c.args.first) c.deref.ensures
          ∙ ap (λ (blocks : ℕ). is_aligned c.args.order c.args.first && nat_le (c.args.first + 2 ^ c.args.order) (512 * blocks)) now.stepping.blocks ∙ c.requires.block,
    )

pub holder-requires : goal.holder-requires
holder-requires g c =
    let z = c.loop-moved.self-inside.tables.value in
    let next : next_to_go c.args.first (2 ^ c.args.order) z ≡ Some c.in-Some.source = sym (c.next_to_go.ensures ∙ ap (next_to_go c.args.first (2 ^ c.args.order)) c.deref.ensures) ∙ c.in-Some.is in
    let vacant : highest_vacant z ≡ Some c.in-Some-highest_vacant.target = sym (c.highest_vacant.ensures ∙ ap highest_vacant c.deref-in-loop-moved.ensures) ∙ c.in-Some-highest_vacant.is in
    let same : frame_count c.deref-in-loop-moved-2.result.now ≡ frame_count z = ap frame_count c.deref-in-loop-moved-2.ensures in
    (omega arith, omega (arith, same, source_within c.args.first (2 ^ c.args.order) z c.loop-moved.invariant.valid c.in-Some.source c.in-Some-highest_vacant.target next vacant))

pub unreachable-requires : goal.unreachable-requires
unreachable-requires g c =
    let z = c.loop-moved.self-inside.tables.value in
    let next : next_to_go c.args.first (2 ^ c.args.order) z ≡ Some c.in-Some.source = sym (c.next_to_go.ensures ∙ ap (next_to_go c.args.first (2 ^ c.args.order)) c.deref.ensures) ∙ c.in-Some.is in
    let vacant : highest_vacant z ≡ Some c.in-Some-highest_vacant.target = sym (c.highest_vacant.ensures ∙ ap highest_vacant c.deref-in-loop-moved.ensures) ∙ c.in-Some-highest_vacant.is in
    let there = page_there c.args.first (2 ^ c.args.order) z c.loop-moved.invariant.valid c.in-Some.source c.in-Some-highest_vacant.target next vacant in
    c.in_default-holder.not-Some there.0 (c.holder.ensures.holder ∙ ap (λ (u : ZoneState). holder u c.in-Some.source) c.deref-in-loop-moved-2.ensures ∙ there.1)

pub move_page-requires : goal.move_page-requires
move_page-requires g c =
    let z = c.loop-moved.self-inside.tables.value in
    let same : c.deref_mut.result.now ≡ z = c.deref_mut.ensures.value in
    let now = c.loop-moved.invariant in
    let next : next_to_go c.args.first (2 ^ c.args.order) z ≡ Some c.in-Some.source = sym (c.next_to_go.ensures ∙ ap (next_to_go c.args.first (2 ^ c.args.order)) c.deref.ensures) ∙ c.in-Some.is in
    let vacant : highest_vacant z ≡ Some c.in-Some-highest_vacant.target = sym (c.highest_vacant.ensures ∙ ap highest_vacant c.deref-in-loop-moved.ensures) ∙ c.in-Some-highest_vacant.is in
    let holds : holder z c.in-Some.source ≡ Some c.in-Some-holder.page = sym (c.holder.ensures.holder ∙ ap (λ (u : ZoneState). holder u c.in-Some.source) c.deref-in-loop-moved-2.ensures) ∙ c.in-Some-holder.is in
    let room = room_for_one c.args.first (2 ^ c.args.order) c.args.self.now z c.loop-moved.moved c.args.pages now.stepping c.loop-moved-test.true c.requires.room in (
      omega arith,
      (
        subst (λ (u : ZoneState). IsMove u (record { page = c.in-Some-holder.page; source = c.in-Some.source; target = c.in-Some-highest_vacant.target })) (sym same) (may_move c.args.first (2 ^ c.args.order) z now.valid c.in-Some.source c.in-Some-highest_vacant.target next vacant c.in-Some-holder.page holds),
        ap isolate_refusal same ∙ accepted z room,
      ),
    )

pub claim-requires : goal.claim-requires
claim-requires g c =
    let z = c.loop-moved.self-inside.tables.value in
    let now = c.loop-moved.invariant in
    let next : next_to_go c.args.first (2 ^ c.args.order) z ≡ Some c.in-Some.source = sym (c.next_to_go.ensures ∙ ap (next_to_go c.args.first (2 ^ c.args.order)) c.deref.ensures) ∙ c.in-Some.is in
    let vacant : highest_vacant z ≡ Some c.in-Some-highest_vacant.target = sym (c.highest_vacant.ensures ∙ ap highest_vacant c.deref-in-loop-moved.ensures) ∙ c.in-Some-highest_vacant.is in
    let holds : holder z c.in-Some.source ≡ Some c.in-Some-holder.page = sym (c.holder.ensures.holder ∙ ap (λ (u : ZoneState). holder u c.in-Some.source) c.deref-in-loop-moved-2.ensures) ∙ c.in-Some-holder.is in
    let went = c.deref_mut-in-loop-moved.ensures.value ∙ c.move_page.ensures.step ∙ ap (λ (u : ZoneState). moved_away u (record { page = c.in-Some-holder.page; source = c.in-Some.source; target = c.in-Some-highest_vacant.target })) c.deref_mut.ensures.value in
    let count : frame_count c.deref_mut-in-loop-moved.result.now ≡ frame_count z = ap frame_count went in (
      omega arith,
      (
        omega (arith, count, source_within c.args.first (2 ^ c.args.order) z now.valid c.in-Some.source c.in-Some-highest_vacant.target next vacant),
        ap (λ (u : ZoneState). is_free u c.in-Some.source) went ∙ source_free c.args.first (2 ^ c.args.order) z now.valid c.in-Some.source c.in-Some-highest_vacant.target next vacant c.in-Some-holder.page holds,
      ),
    )

pub loop-moved-preserved : goal.loop-moved-preserved
loop-moved-preserved g c =
    let z = c.loop-moved.self-inside.tables.value in
    let now = c.loop-moved.invariant in
    let source = c.in-Some.source in
    let next : next_to_go c.args.first (2 ^ c.args.order) z ≡ Some c.in-Some.source = sym (c.next_to_go.ensures ∙ ap (next_to_go c.args.first (2 ^ c.args.order)) c.deref.ensures) ∙ c.in-Some.is in
    let vacant : highest_vacant z ≡ Some c.in-Some-highest_vacant.target = sym (c.highest_vacant.ensures ∙ ap highest_vacant c.deref-in-loop-moved.ensures) ∙ c.in-Some-highest_vacant.is in
    let holds : holder z c.in-Some.source ≡ Some c.in-Some-holder.page = sym (c.holder.ensures.holder ∙ ap (λ (u : ZoneState). holder u c.in-Some.source) c.deref-in-loop-moved-2.ensures) ∙ c.in-Some-holder.is in
    let went = c.deref_mut-in-loop-moved.ensures.value ∙ c.move_page.ensures.step ∙ ap (λ (u : ZoneState). moved_away u (record { page = c.in-Some-holder.page; source = c.in-Some.source; target = c.in-Some-highest_vacant.target })) c.deref_mut.ensures.value in
    let room = room_for_one c.args.first (2 ^ c.args.order) c.args.self.now z c.loop-moved.moved c.args.pages now.stepping c.loop-moved-test.true c.requires.room in
    let more : c.loop-moved.moved + 1 ≡ suc c.loop-moved.moved = omega arith in
    let after = c.claim.ensures.step ∙ ap (λ (u : ZoneState). claimed_at u source) went in
    record {
      gone = after ∙ gone_is c.args.first (2 ^ c.args.order) z now.valid source c.in-Some-highest_vacant.target next vacant c.in-Some-holder.page holds
          ∙ ap (λ (u : ZoneState). gone u (next_to_go c.args.first (2 ^ c.args.order) u) (highest_vacant u)) now.gone ∙ sym (ap (pages_gone c.args.first (2 ^ c.args.order) c.args.self.now) more);
      stepping = stepping_on c.args.first (2 ^ c.args.order) c.args.self.now z c.claim.new.self c.loop-moved.moved now.stepping
          (subst (λ (u : ZoneState). IsStepping c.args.first (2 ^ c.args.order) z u 1) (sym after)
          (goes_out c.args.first (2 ^ c.args.order) z now.valid source c.in-Some-highest_vacant.target next vacant c.in-Some-holder.page holds now.stepping.shut room));
      most = omega (arith, c.loop-moved-test.true);
      valid = c.claim.ensures.valid;
    }

pub returns-in_default-clause-gone : goal.returns-in_default-clause-gone
returns-in_default-clause-gone g c =
    let z = c.loop-moved.self-inside.tables.value in
    let now = c.loop-moved.invariant in
    let none : next_to_go c.args.first (2 ^ c.args.order) z ≡ None = sym (c.next_to_go.ensures ∙ ap (next_to_go c.args.first (2 ^ c.args.order)) c.deref.ensures) ∙ c.in_default.is in
    let all : c.loop-moved.moved + (c.args.pages - c.loop-moved.moved) ≡ c.args.pages = omega (arith, now.most) in
    goes_no_more c.args.first (2 ^ c.args.order) c.args.self.now z c.loop-moved.moved (c.args.pages - c.loop-moved.moved) now.gone (ap (λ o. gone z o (highest_vacant z)) none)
    ∙ ap (pages_gone c.args.first (2 ^ c.args.order) c.args.self.now) all

pub returns-in_default-highest_vacant-clause-gone : goal.returns-in_default-highest_vacant-clause-gone
returns-in_default-highest_vacant-clause-gone g c =
    let z = c.loop-moved.self-inside.tables.value in
    let now = c.loop-moved.invariant in
    let next : next_to_go c.args.first (2 ^ c.args.order) z ≡ Some c.in-Some.source = sym (c.next_to_go.ensures ∙ ap (next_to_go c.args.first (2 ^ c.args.order)) c.deref.ensures) ∙ c.in-Some.is in
    let none : highest_vacant z ≡ None = sym (c.highest_vacant.ensures ∙ ap highest_vacant c.deref-in-loop-moved.ensures) ∙ c.in_default-highest_vacant.is in
    let all : c.loop-moved.moved + (c.args.pages - c.loop-moved.moved) ≡ c.args.pages = omega (arith, now.most) in
    goes_no_more c.args.first (2 ^ c.args.order) c.args.self.now z c.loop-moved.moved (c.args.pages - c.loop-moved.moved) now.gone (λ i. gone z (next i) (none i))
    ∙ ap (pages_gone c.args.first (2 ^ c.args.order) c.args.self.now) all
