use Rattle.std.proofs.Common.{◌≡◌, ◌∙◌, ◌/◌, ◌^◌, ap, subst, sym, refl, arith}
use Rattle.std.specs.Prelude.{true, not, is_some, Some, None, if◌then◌else◌}
use Rattle.state_core.specs.HandingOut.{has_block}
use Rattle.state_core.specs.ZoneState.{ZoneState}
use Rattle.state_core.specs.declared.error.ZoneError.TheVariants.{Range, NoBlock}
use Rattle.fewest_core.specs.FewestMoves.{is_open}
use Rattle.zone_core.proofs.Stepping.{claimed_shut, IsShutRun}
use Rattle.zone_core.specs.ZoneIdentity.{HasIdentity}
use Rattle.zone_core.proofs.bare.BareZone.claim.Goals as goal

pub claim_free-requires : goal.claim_free-requires
claim_free-requires g c =
    let block : has_block c.args.self.now c.args.order c.args.first ≡ true = ap (λ (u : ZoneState). has_block u c.args.order c.args.first) (sym (c.deref.ensures ∙ c.self.view_is)) ∙ sym c.has_block.ensures ∙ c.if-not-has_block.false in
    (omega arith, block)

pub returns-clause-refused : goal.returns-clause-refused
returns-clause-refused g c =
    let block : has_block c.args.self.now c.args.order c.args.first ≡ true = ap (λ (u : ZoneState). has_block u c.args.order c.args.first) (sym (c.deref.ensures ∙ c.self.view_is)) ∙ sym c.has_block.ensures ∙ c.if-not-has_block.false in
    let opened : is_open c.args.self.now (2 ^ c.args.order) (c.args.first / 2 ^ c.args.order) ≡ true =
    ap (λ (u : ZoneState). is_open u (2 ^ c.args.order) (c.args.first / 2 ^ c.args.order)) (sym (c.deref-2.ensures ∙ c.self.view_is)) ∙ sym c.pages_of.ensures.«open» ∙ ap is_some c.in-Some.is in
    sym (λ i. if not (block i) then Some Range else if not (opened i) then Some NoBlock else None)

pub returns-clause-shut : goal.returns-clause-shut
returns-clause-shut g c = subst (IsShutRun c.args.first (2 ^ c.args.order)) (sym c.claim_free.ensures.claimed) (claimed_shut c.args.first (2 ^ c.args.order) c.args.self.now)

pub returns-clause-identity : goal.returns-clause-identity
returns-clause-identity g c = subst (HasIdentity c.args.self.now.number c.args.self.now.blocks) (sym c.claim_free.ensures.claimed) (refl, refl)
