use Rattle.std.proofs.Common.{◌∙◌, ap, subst, sym}
use Rattle.state_core.specs.Ending.{moved_to_target}
use Rattle.state_core.specs.LentMoves.{is_lent_move, move_returned}
use Rattle.state_core.specs.Pairs.{HaveMet}
use Rattle.state_core.specs.Valid.{IsValidZone}
use Rattle.state_core.specs.ZoneState.{is_quiet}
use Rattle.state_core.proofs.LentMoves.{lent_way, met_lent_moved}
use Rattle.zone_core.proofs.Sending.{source_within}
use Rattle.zone_core.proofs.bare.BareZone.commit_lent.Goals as goal

pub returns-clause-met : goal.returns-clause-met
returns-clause-met g c quiet met =
    let z = c.deref_mut-2.result.now in
    let m = c.args.copied in
    let is = c.deref_mut-2.ensures.value in
    let law = subst IsValidZone (sym is) c.self.invariant in
    let lent = (λ i. is_lent_move ((is ∙ sym c.deref.ensures) i) (sym c.lent.ensures i)) ∙ sym c.has_lent.ensures ∙ c.if-not-has_lent.false in
    subst HaveMet {x = move_returned (moved_to_target z m.serial m.page) m.page} (sym c.arrive_lent.ensures.step)
    (met_lent_moved z m.page m.serial m.source m.target law (ap is_quiet (is ∙ c.self.view_is) ∙ quiet) (lent_way z m lent).0 (subst HaveMet (sym (is ∙ c.self.view_is)) met))

pub returns-clause-within : goal.returns-clause-within
returns-clause-within g c =
    let lent = (λ i. is_lent_move (sym (c.deref.ensures ∙ c.self.view_is) i) (sym c.lent.ensures i)) ∙ sym c.has_lent.ensures ∙ c.if-not-has_lent.false in
    source_within c.args.self.now c.args.copied (subst IsValidZone c.self.view_is c.self.invariant) lent

pub returns-then-has_pin-clause-within : goal.returns-then-has_pin-clause-within
returns-then-has_pin-clause-within g c =
    let lent = (λ i. is_lent_move (sym (c.deref.ensures ∙ c.self.view_is) i) (sym c.lent.ensures i)) ∙ sym c.has_lent.ensures ∙ c.if-not-has_lent.false in
    source_within c.args.self.now c.args.copied (subst IsValidZone c.self.view_is c.self.invariant) lent
