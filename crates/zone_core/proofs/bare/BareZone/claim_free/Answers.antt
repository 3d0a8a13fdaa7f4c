use Rattle.std.proofs.Common.{◌≡◌, ◌∙◌, ◌+◌, ◌^◌, ◌<◌, ap, sym, subst, arith}
use Rattle.std.specs.Prelude.{None}
use Rattle.fewest_core.proofs.OpenRuns.{block_within}
use Rattle.state_core.specs.Claiming.{claimed_at, run_claimed}
use Rattle.state_core.specs.ZoneState.{ZoneState, frame_count, is_free}
use Rattle.zone_core.specs.declared.bare.BareZone.TheInside.{Inside}
use Rattle.zone_core.proofs.Claims.{IsClaiming, claimed_next, claimed_none}
use Rattle.zone_core.proofs.bare.BareZone.claim_free.Goals as goal
use Rattle.zone_core.proofs.bare.BareZone.claim_free.Goals.{then-is_free, else-is_free}

pub loop-offset-init : goal.loop-offset-init
loop-offset-init g c = record {
  same = c.forget_round.ensures.step ∙ ap (λ (u : ZoneState). record u { round = None }) (c.deref_mut.ensures.value ∙ c.self.view_is);
  valid = c.forget_round.ensures.valid;
}

pub is_free-requires : goal.is_free-requires
is_free-requires g c =
    let same : frame_count c.deref.result.now ≡ frame_count c.args.self.now = ap frame_count (c.deref.ensures ∙ c.loop-offset.invariant.same) in
    let within : c.frame_no-frame.result < frame_count c.args.self.now = omega (arith, c.frame_no-frame.ensures, c.get.ensures.value, c.loop-offset-test.true, c.frames-offset-end.ensures.value, block_within c.args.self.now c.args.first c.args.order c.requires) in
    (omega arith, omega (arith, within, same))

pub claim-requires : goal.claim-requires
claim-requires g c =
    let same : frame_count c.deref_mut-then-is_free.result.now ≡ frame_count c.args.self.now = ap frame_count (c.deref_mut-then-is_free.ensures.value ∙ c.loop-offset.invariant.same) in
    let within : c.frame_no-frame.result < frame_count c.args.self.now = omega (arith, c.frame_no-frame.ensures, c.get.ensures.value, c.loop-offset-test.true, c.frames-offset-end.ensures.value, block_within c.args.self.now c.args.first c.args.order c.requires) in (
      omega arith,
      (
        omega (arith, within, same),
        ap (λ (u : ZoneState). is_free u c.frame_no-frame.result) (c.deref_mut-then-is_free.ensures.value ∙ sym c.deref.ensures) ∙ sym c.is_free.ensures ∙ c.if-is_free.true,
      ),
    )

pub loop-offset-preserved : goal.loop-offset-preserved
loop-offset-preserved g c = elim c.if-is_free.branch [
  | then-is_free w ↦
      subst (λ (y : Inside g.row.W). IsClaiming c.args.first (c.loop-offset.offset + 1) c.args.self.now y.tables.value) (sym w.self-inside-is)
      (claimed_next c.args.first c.loop-offset.offset c.args.self.now c.loop-offset.self-inside.tables.value c.loop-offset.invariant w.claim.new.self (ap (λ (u : ZoneState). is_free u (c.args.first + c.loop-offset.offset)) (sym c.deref.ensures) ∙ ap (is_free c.deref.result.now) (sym (c.frame_no-frame.ensures ∙ ap (λ k. k + c.loop-offset.offset) c.get.ensures.value)) ∙ sym c.is_free.ensures ∙ w.if-is_free.true) (w.claim.ensures.step ∙ (λ i. claimed_at (w.deref_mut-then-is_free.ensures.value i) ((c.frame_no-frame.ensures ∙ ap (λ k. k + c.loop-offset.offset) c.get.ensures.value) i))) w.claim.ensures.valid)
  | else-is_free w ↦
      subst (λ (y : Inside g.row.W). IsClaiming c.args.first (c.loop-offset.offset + 1) c.args.self.now y.tables.value) (sym w.self-inside-is)
      (claimed_none c.args.first c.loop-offset.offset c.args.self.now c.loop-offset.self-inside.tables.value c.loop-offset.invariant (ap (λ (u : ZoneState). is_free u (c.args.first + c.loop-offset.offset)) (sym c.deref.ensures) ∙ ap (is_free c.deref.result.now) (sym (c.frame_no-frame.ensures ∙ ap (λ k. k + c.loop-offset.offset) c.get.ensures.value)) ∙ sym c.is_free.ensures ∙ w.if-is_free.false))
]

pub returns-clause-claimed : goal.returns-clause-claimed
returns-clause-claimed g c =
    let all : c.loop-offset.offset ≡ 2 ^ c.args.order = omega (arith, c.loop-offset-test.false, c.loop-offset.auto.offset-end, c.frames-offset-end.ensures.value) in
    c.loop-offset.invariant.same ∙ ap (λ n. run_claimed c.args.first n c.args.self.now) all

pub returns-clause-valid : goal.returns-clause-valid
returns-clause-valid g c = c.loop-offset.invariant.valid
