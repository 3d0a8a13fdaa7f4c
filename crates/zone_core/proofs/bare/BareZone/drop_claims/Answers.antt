use Rattle.std.proofs.Common.{◌≡◌, ◌∙◌, ◌+◌, ◌^◌, ◌<◌, ap, sym, subst, arith}
use Rattle.std.specs.Prelude.{None}
use Rattle.fewest_core.proofs.OpenRuns.{block_within}
use Rattle.state_core.specs.Claiming.{dropped_at, is_claimed, run_dropped}
use Rattle.state_core.specs.ZoneState.{ZoneState, frame_count}
use Rattle.zone_core.specs.declared.bare.BareZone.TheInside.{Inside}
use Rattle.zone_core.proofs.Claims.{IsDropping, dropped_next, dropped_none}
use Rattle.zone_core.proofs.bare.BareZone.drop_claims.Goals as goal
use Rattle.zone_core.proofs.bare.BareZone.drop_claims.Goals.{then-is_claimed, else-is_claimed}

pub loop-offset-init : goal.loop-offset-init
loop-offset-init g c = record {
  same = c.forget_round.ensures.step ∙ ap (λ (u : ZoneState). record u { round = None }) (c.deref_mut.ensures.value ∙ c.self.view_is);
  valid = c.forget_round.ensures.valid;
}

pub is_claimed-requires : goal.is_claimed-requires
is_claimed-requires g c =
    let same : frame_count c.deref.result.now ≡ frame_count c.args.self.now = ap frame_count (c.deref.ensures ∙ c.loop-offset.invariant.same) in
    let within : c.frame_no-frame.result < frame_count c.args.self.now = omega (arith, c.frame_no-frame.ensures, c.get.ensures.value, c.loop-offset-test.true, c.frames-offset-end.ensures.value, block_within c.args.self.now c.args.first c.args.order c.requires) in
    (omega arith, omega (arith, within, same))

pub drop_claim-requires : goal.drop_claim-requires
drop_claim-requires g c = (omega arith, ap (λ (u : ZoneState). is_claimed u c.frame_no-frame.result) (c.deref_mut-then-is_claimed.ensures.value ∙ sym c.deref.ensures) ∙ sym c.is_claimed.ensures ∙ c.if-is_claimed.true)

pub loop-offset-preserved : goal.loop-offset-preserved
loop-offset-preserved g c = elim c.if-is_claimed.branch [
  | then-is_claimed w ↦
      subst (λ (y : Inside g.row.W). IsDropping c.args.first (c.loop-offset.offset + 1) c.args.self.now y.tables.value) (sym w.self-inside-is)
      (dropped_next c.args.first c.loop-offset.offset c.args.self.now c.loop-offset.self-inside.tables.value c.loop-offset.invariant w.drop_claim.new.self (w.drop_claim.ensures.step ∙ (λ i. dropped_at (w.deref_mut-then-is_claimed.ensures.value i) ((c.frame_no-frame.ensures ∙ ap (λ k. k + c.loop-offset.offset) c.get.ensures.value) i))) w.drop_claim.ensures.valid)
  | else-is_claimed w ↦
      subst (λ (y : Inside g.row.W). IsDropping c.args.first (c.loop-offset.offset + 1) c.args.self.now y.tables.value) (sym w.self-inside-is)
      (dropped_none c.args.first c.loop-offset.offset c.args.self.now c.loop-offset.self-inside.tables.value c.loop-offset.invariant (ap (λ (u : ZoneState). is_claimed u (c.args.first + c.loop-offset.offset)) (sym c.deref.ensures) ∙ ap (is_claimed c.deref.result.now) (sym (c.frame_no-frame.ensures ∙ ap (λ k. k + c.loop-offset.offset) c.get.ensures.value)) ∙ sym c.is_claimed.ensures ∙ w.if-is_claimed.false))
]

pub returns-clause-dropped : goal.returns-clause-dropped
returns-clause-dropped g c =
    let all : c.loop-offset.offset ≡ 2 ^ c.args.order = omega (arith, c.loop-offset-test.false, c.loop-offset.auto.offset-end, c.frames-offset-end.ensures.value) in
    c.loop-offset.invariant.same ∙ ap (λ n. run_dropped c.args.first n c.args.self.now) all

pub returns-clause-valid : goal.returns-clause-valid
returns-clause-valid g c = c.loop-offset.invariant.valid
