use Rattle.std.proofs.Common.{◌∙◌, ◌+◌, ◌*◌, ◌^◌, ℕ, ap, subst, sym, arith}
use Rattle.fewest_core.specs.Evacuation.{moved_away}
use Rattle.fewest_core.specs.FewestMoves.{IsMove}
use Rattle.fewest_core.specs.Reservation.{is_in_runs}
use Rattle.state_core.specs.Isolating.{isolate_refusal}
use Rattle.state_core.specs.Pairs.{holder}
use Rattle.state_core.specs.ZoneState.{ZoneState, frame_count}
use Rattle.zone_core.specs.Reserving.{IsNext}
use Rattle.zone_core.proofs.Clearing.{clearing_begins, clears_none, clears_one, clears_past, highest_is, IsPartCleared}
use Rattle.zone_core.proofs.Emptying.{accepted_here, found_within, may_move_here, spare_here}
use Rattle.zone_core.proofs.bare.BareZone.clear.Goals as goal

pub loop-number-init : goal.loop-number-init
loop-number-init g c = record {
  part = clearing_begins (is_in_runs c.args.firsts.now (2 ^ c.args.order)) c.args.self.now c.requires.«open» c.blocks-top.ensures.valid (512 * c.blocks-top.result) (ap (λ (k : ℕ). 512 * k) c.blocks-top.ensures.blocks);
  within = omega arith;
}

pub loop-number-preserved-in_default-holder : goal.loop-number-preserved-in_default-holder
loop-number-preserved-in_default-holder g c =
    let is_in = is_in_runs c.args.firsts.now (2 ^ c.args.order) in
    let next = subst (IsNext is_in c.loop-number.from) c.in-Some.is c.next_in_runs.ensures in
    let part = clears_past is_in c.args.self.now c.loop-number.self c.loop-number.from c.loop-number.top c.in-Some.number c.loop-number.invariant.part next.least next.between in
    let within = c.requires.within c.in-Some.number next.passes in
    let here = c.deref.ensures ∙ c.self.view_is in
    let none = sym (λ i. holder (here i) (c.frame_no-source.ensures i)) ∙ sym c.holder.ensures.holder ∙ c.in_default-holder.is in
    record {
      part = clears_none is_in c.args.self.now c.loop-number.self c.in-Some.number c.loop-number.top part next.passes none;
      within = omega (arith, within);
    }

pub loop-number-smaller-in_default-holder : goal.loop-number-smaller-in_default-holder
loop-number-smaller-in_default-holder g c =
    let is_in = is_in_runs c.args.firsts.now (2 ^ c.args.order) in
    let next = subst (IsNext is_in c.loop-number.from) c.in-Some.is c.next_in_runs.ensures in
    let within = c.requires.within c.in-Some.number next.passes in
    omega (arith, within, next.least)

pub unreachable-requires : goal.unreachable-requires
unreachable-requires g c =
    let is_in = is_in_runs c.args.firsts.now (2 ^ c.args.order) in
    let next = subst (IsNext is_in c.loop-number.from) c.in-Some.is c.next_in_runs.ensures in
    let part = clears_past is_in c.args.self.now c.loop-number.self c.loop-number.from c.loop-number.top c.in-Some.number c.loop-number.invariant.part next.least next.between in
    let within = c.requires.within c.in-Some.number next.passes in
    let here = c.deref.ensures ∙ c.self.view_is in
    let holds = sym (λ i. holder (here i) (c.frame_no-source.ensures i)) ∙ sym c.holder.ensures.holder ∙ c.in-Some-holder.is in
    let some = spare_here is_in c.args.self.now c.loop-number.self c.in-Some.number part.emptying next.passes part.valid within c.requires.enough c.in-Some-holder.page holds in
    c.in_default-highest_beside.not-Some some.0 (c.highest_beside.ensures ∙ sym (highest_is is_in c.args.self.now c.loop-number.self c.in-Some.number c.loop-number.top part) ∙ some.1)

pub move_page-requires : goal.move_page-requires
move_page-requires g c =
    let is_in = is_in_runs c.args.firsts.now (2 ^ c.args.order) in
    let next = subst (IsNext is_in c.loop-number.from) c.in-Some.is c.next_in_runs.ensures in
    let part = clears_past is_in c.args.self.now c.loop-number.self c.loop-number.from c.loop-number.top c.in-Some.number c.loop-number.invariant.part next.least next.between in
    let within = c.requires.within c.in-Some.number next.passes in
    let here = c.deref.ensures ∙ c.self.view_is in
    let holds = sym (λ i. holder (here i) (c.frame_no-source.ensures i)) ∙ sym c.holder.ensures.holder ∙ c.in-Some-holder.is in
    let same = c.deref_mut.ensures.value ∙ c.self.view_is in
    let found = highest_is is_in c.args.self.now c.loop-number.self c.in-Some.number c.loop-number.top part ∙ sym c.highest_beside.ensures ∙ c.in-Some-highest_beside.is in
    let may = may_move_here is_in c.args.self.now c.loop-number.self c.in-Some.number part.emptying next.passes part.valid within c.requires.enough c.in-Some-holder.page holds c.in-Some-highest_beside.target found in (
      omega arith,
      (
        subst (λ (source : ℕ). IsMove c.deref_mut.result.now (record { page = c.in-Some-holder.page; source = source; target = c.in-Some-highest_beside.target })) (sym c.frame_no-source.ensures)
            (subst (λ (u : ZoneState). IsMove u (record { page = c.in-Some-holder.page; source = c.in-Some.number; target = c.in-Some-highest_beside.target })) (sym same) may),
        ap isolate_refusal same
            ∙ accepted_here is_in c.args.self.now c.loop-number.self c.in-Some.number part.emptying next.passes part.valid within c.requires.enough c.in-Some-holder.page holds,
      ),
    )

pub loop-number-preserved : goal.loop-number-preserved
loop-number-preserved g c =
    let is_in = is_in_runs c.args.firsts.now (2 ^ c.args.order) in
    let next = subst (IsNext is_in c.loop-number.from) c.in-Some.is c.next_in_runs.ensures in
    let part = clears_past is_in c.args.self.now c.loop-number.self c.loop-number.from c.loop-number.top c.in-Some.number c.loop-number.invariant.part next.least next.between in
    let within = c.requires.within c.in-Some.number next.passes in
    let here = c.deref.ensures ∙ c.self.view_is in
    let holds = sym (λ i. holder (here i) (c.frame_no-source.ensures i)) ∙ sym c.holder.ensures.holder ∙ c.in-Some-holder.is in
    let same = c.deref_mut.ensures.value ∙ c.self.view_is in
    let found = highest_is is_in c.args.self.now c.loop-number.self c.in-Some.number c.loop-number.top part ∙ sym c.highest_beside.ensures ∙ c.in-Some-highest_beside.is in
    let below = found_within is_in c.loop-number.self c.in-Some-highest_beside.target found in
    record {
      part = subst (IsPartCleared is_in c.args.self.now c.move_page.new.self (c.in-Some.number + 1)) (sym c.get-top.ensures.value)
          (clears_one is_in c.args.self.now c.loop-number.self c.in-Some.number c.loop-number.top part next.passes within c.requires.enough c.in-Some-holder.page c.in-Some-highest_beside.target holds found below c.move_page.new.self
          (c.move_page.ensures.step ∙ (λ i. moved_away (same i) (record { page = c.in-Some-holder.page; source = c.frame_no-source.ensures i; target = c.in-Some-highest_beside.target })))
          c.move_page.ensures.valid);
      within = omega (arith, within);
    }

pub loop-number-smaller : goal.loop-number-smaller
loop-number-smaller g c =
    let is_in = is_in_runs c.args.firsts.now (2 ^ c.args.order) in
    let next = subst (IsNext is_in c.loop-number.from) c.in-Some.is c.next_in_runs.ensures in
    let within = c.requires.within c.in-Some.number next.passes in
    omega (arith, within, next.least)

pub returns-clause-cleared : goal.returns-clause-cleared
returns-clause-cleared g c =
    let is_in = is_in_runs c.args.firsts.now (2 ^ c.args.order) in
    let none = subst (IsNext is_in c.loop-number.from) c.in_default.is c.next_in_runs.ensures in
    let done = clears_past is_in c.args.self.now c.loop-number.self c.loop-number.from c.loop-number.top (frame_count c.args.self.now) c.loop-number.invariant.part c.loop-number.invariant.within (λ frame low high. none frame low) in
    done.same

pub returns-clause-emptied : goal.returns-clause-emptied
returns-clause-emptied g c =
    let is_in = is_in_runs c.args.firsts.now (2 ^ c.args.order) in
    let none = subst (IsNext is_in c.loop-number.from) c.in_default.is c.next_in_runs.ensures in
    let done = clears_past is_in c.args.self.now c.loop-number.self c.loop-number.from c.loop-number.top (frame_count c.args.self.now) c.loop-number.invariant.part c.loop-number.invariant.within (λ frame low high. none frame low) in
    done.emptying

pub returns-clause-valid : goal.returns-clause-valid
returns-clause-valid g c = c.loop-number.invariant.part.valid
