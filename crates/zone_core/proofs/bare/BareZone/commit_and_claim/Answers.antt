use Rattle.std.proofs.Common.{rules, ◌≡◌, ◌≢◌, ◌∙◌, ◌*◌, ℕ, ap, subst, sym, arith}
use Rattle.state_core.specs.declared.moves.Ended.TheVariants as ended
use Rattle.state_core.specs.Claiming.{claimed_at}
use Rattle.state_core.specs.LentMoves.{LentEnds}
use Rattle.state_core.specs.ZoneState.{ZoneState, frame_count, is_free}
use Rattle.zone_core.specs.LentMoves.{SentEnds}
use Rattle.zone_core.proofs.Sending.{ends_back, sent_off}
use Rattle.zone_core.proofs.bare.BareZone.commit_and_claim.Goals as goal
use Rattle.zone_core.proofs.bare.BareZone.commit_and_claim.Goals.{then-eq, else-eq}

pub claim-requires : goal.claim-requires
claim-requires g c =
    let moved : c.in_ok-ended.ended ≡ ended.Moved = search rules in
    let source : c.way-source.result.source ≡ c.args.copied.source = (λ i. (c.way-source.ensures i).source) ∙ (λ i. (c.lent.ensures i).source) in
    let same : c.deref_mut.result.now ≡ c.commit_lent.new.self = c.deref_mut.ensures.value ∙ c.self.view_is in
    let settled = subst (LentEnds c.args.self.now c.commit_lent.new.self c.args.copied) moved c.in_ok-ended.ensures.settled in
    let count = ap frame_count same ∙ ap (λ (blocks : ℕ). 512 * blocks) c.in_ok-ended.ensures.identity.1 in (
      omega arith,
      (
        omega (arith, source, count, c.in_ok-ended.ensures.within),
        (λ i. is_free (same i) (source i)) ∙ settled.freed,
      ),
    )

pub returns-clause-settled : goal.returns-clause-settled
returns-clause-settled g c =
    let ends = c.in_ok-ended.ensures.settled in
    let old = c.args.self.now in
    let m = c.args.copied in
    elim c.if-eq.branch [
      | then-eq w ↦ (let moved : c.in_ok-ended.ended ≡ ended.Moved = search rules in
          let source : c.way-source.result.source ≡ m.source = (λ i. (c.way-source.ensures i).source) ∙ (λ i. (c.lent.ensures i).source) in
          let same = w.deref_mut.ensures.value ∙ c.self.view_is in
          let step = w.self-is ∙ w.claim.ensures.step ∙ (λ i. claimed_at (same i) (source i)) in
          subst (SentEnds old c.if-eq.self m) (sym moved) (sent_off old c.commit_lent.new.self c.if-eq.self m step (subst (LentEnds old c.commit_lent.new.self m) moved ends)))
      | else-eq w ↦ (let other : c.in_ok-ended.ended ≢ ended.Moved = search rules in
          ends_back old c.if-eq.self m c.in_ok-ended.ended other (subst (λ (u : ZoneState). LentEnds old u m c.in_ok-ended.ended) (sym w.self-is) ends))
    ]
