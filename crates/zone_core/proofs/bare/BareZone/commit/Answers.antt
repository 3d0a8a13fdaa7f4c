use Rattle.std.proofs.Common.{◌∙◌, refl, ap, subst, sym}
use Rattle.std.specs.FinMap as map
use Rattle.frame_core.specs.declared.record.Cause.TheVariants.{Pinned}
use Rattle.frame_core.specs.declared.record.Record.TheVariants.{Moved, Back}
use Rattle.frame_core.specs.Page.{Page}
use Rattle.state_core.specs.Ending.{is_own, IsOwnCopy, source_of, target_of, moved_to_target}
use Rattle.state_core.specs.Pairs.{HaveMet}
use Rattle.state_core.specs.Valid.{IsValidZone}
use Rattle.state_core.specs.ZoneState.{ZoneState, is_quiet}
use Rattle.state_core.proofs.StaysMet.{met_moved, never_pinned}
use Rattle.zone_core.proofs.Seated.{ended_once, ended_in, own_found, none_found, words_of_copy, other_words}
use Rattle.zone_core.proofs.bare.BareZone.commit.Given.{Over}
use Rattle.zone_core.proofs.bare.BareZone.commit.Goals as goal
use Rattle.zone_core.proofs.bare.BareZone.commit.Goals.{After-has_pin}

pub returns-then-has_pin-clause-once : goal.returns-then-has_pin-clause-once
returns-then-has_pin-clause-once g c =
    let z = c.deref_mut.result.now in
    ap (λ (v : ZoneState). is_own v c.args.copied) c.go_back.ensures.step
    ∙ ended_once z (Back Pinned c.in-Some.way.serial) c.in-Some.way.page (source_of (map.get z.placement c.in-Some.way.page)) c.args.copied (ap (λ (p : Page). p.number) (sym c.page.ensures) ∙ sym c.in-Some.ensures.named.0)

pub returns-clause-once : goal.returns-clause-once
returns-clause-once g c =
    let z = c.deref_mut-2.result.now in
    ap (λ (v : ZoneState). is_own v c.args.copied) c.arrive.ensures.step
    ∙ ended_once z (Moved c.in-Some.way.serial) c.in-Some.way.page (target_of (map.get z.placement c.in-Some.way.page)) c.args.copied (ap (λ (p : Page). p.number) (sym c.page.ensures) ∙ sym c.in-Some.ensures.named.0)

pub returns-then-has_pin-clause-settled : goal.returns-then-has_pin-clause-settled
returns-then-has_pin-clause-settled g c =
    let placed = ap (λ (v : ZoneState). map.get v.placement c.in-Some.way.page) (c.deref_mut.ensures.value ∙ sym c.deref.ensures) ∙ c.in-Some.ensures.placed in
    ended_in c.deref_mut.result.now c.args.self.now c.go_back.new.self c.args.copied c.in-Some.way.page c.in-Some.way.serial c.in-Some.way.source c.in-Some.way.target _ _ (c.deref_mut.ensures.value ∙ c.self.view_is)
    (ap (λ (p : Page). p.number) (sym c.page.ensures) ∙ sym c.in-Some.ensures.named.0) (sym c.serial.ensures ∙ sym c.in-Some.ensures.named.1) placed c.go_back.ensures.settled

pub returns-clause-settled : goal.returns-clause-settled
returns-clause-settled g c =
    let placed = ap (λ (v : ZoneState). map.get v.placement c.in-Some.way.page) (c.deref_mut-2.ensures.value ∙ sym c.deref.ensures) ∙ c.in-Some.ensures.placed in
    ended_in c.deref_mut-2.result.now c.args.self.now c.arrive.new.self c.args.copied c.in-Some.way.page c.in-Some.way.serial c.in-Some.way.source c.in-Some.way.target _ _ (c.deref_mut-2.ensures.value ∙ c.self.view_is)
    (ap (λ (p : Page). p.number) (sym c.page.ensures) ∙ sym c.in-Some.ensures.named.0) (sym c.serial.ensures ∙ sym c.in-Some.ensures.named.1) placed c.arrive.ensures.settled

pub returns-clause-met : goal.returns-clause-met
returns-clause-met g c quiet met =
    let z = c.deref_mut-2.result.now in
    let is = c.deref_mut-2.ensures.value in
    let law = subst IsValidZone (sym is) c.self.invariant in
    let way = c.in-Some.way in
    let placed = ap (λ (v : ZoneState). map.get v.placement way.page) (is ∙ sym c.deref.ensures) ∙ c.in-Some.ensures.placed in
    subst HaveMet {x = moved_to_target z way.serial way.page} (sym c.arrive.ensures.step)
    (met_moved z way.page way.serial way.source way.target law (law.fingers.swept (ap is_quiet (is ∙ c.self.view_is) ∙ quiet)) placed (subst HaveMet (sym (is ∙ c.self.view_is)) met))

-- in a quiet round no page has a pin
pub returns-then-has_pin-clause-met : goal.returns-then-has_pin-clause-met
returns-then-has_pin-clause-met g c quiet met =
    let way = c.in-Some.way in
    let is = c.deref-3.ensures in
    let placed = ap (λ (v : ZoneState). map.get v.placement way.page) (is ∙ sym c.deref.ensures) ∙ c.in-Some.ensures.placed in
    absurd (never_pinned c.deref-3.result.now way.page way.serial way.source way.target (subst IsValidZone (sym is) c.self.invariant) placed (ap is_quiet (is ∙ c.self.view_is) ∙ quiet) (sym c.has_pin.ensures ∙ c.if-has_pin.true))

pub returns-then-has_pin-clause-moves : goal.returns-then-has_pin-clause-moves
returns-then-has_pin-clause-moves g c quiet =
    let way = c.in-Some.way in
    let is = c.deref-3.ensures in
    let placed = ap (λ (v : ZoneState). map.get v.placement way.page) (is ∙ sym c.deref.ensures) ∙ c.in-Some.ensures.placed in
    absurd (never_pinned c.deref-3.result.now way.page way.serial way.source way.target (subst IsValidZone (sym is) c.self.invariant) placed (ap is_quiet (is ∙ c.self.view_is) ∙ quiet) (sym c.has_pin.ensures ∙ c.if-has_pin.true))

pub returns-in_default-clause-own : goal.returns-in_default-clause-own
returns-in_default-clause-own g c = none_found (c.deref.ensures ∙ c.self.view_is) c.serial.ensures c.page.ensures c.find_move.result c.find_move.ensures.own c.in_default.not-Some

pub returns-then-not-has_words-clause-own : goal.returns-then-not-has_words-clause-own
returns-then-not-has_words-clause-own g c =
    other_words (c.deref-2.ensures ∙ c.self.view_is) c.page-2.ensures (c.in-Some.ensures.named.0 ∙ ap (λ (p : Page). p.number) c.page.ensures) c.if-not-has_words.true c.has_words.ensures.1

own_here : (g : Over) (c : After-has_pin g) → IsOwnCopy c.args.self.now c.args.copied
own_here g c = record {
  own = own_found (c.deref.ensures ∙ c.self.view_is) c.serial.ensures c.page.ensures c.find_move.result c.find_move.ensures.own c.in-Some.is;
  same =
      words_of_copy (c.deref-2.ensures ∙ c.self.view_is) c.page-2.ensures (c.in-Some.ensures.named.0 ∙ ap (λ (p : Page). p.number) c.page.ensures)
      (c.has_words.ensures.0 c.if-not-has_words.false);
}

pub returns-then-has_pin-clause-own : goal.returns-then-has_pin-clause-own
returns-then-has_pin-clause-own g c = (λ ok. own_here g (goal.at.returns-then-has_pin-clause-own g c).After-has_pin, λ own. refl)

pub returns-clause-own : goal.returns-clause-own
returns-clause-own g c = (λ ok. own_here g (goal.at.returns-clause-own g c).After-has_pin, λ own. refl)
