use Rattle.std.proofs.Common.{◌≡◌, ◌∙◌, ◌^◌, ap, subst, sym, arith}
use Rattle.std.specs.Prelude.{true, not, Some, None, if◌then◌else◌}
use Rattle.std.proofs.lemmas.Bool.{eq-eqb}
use Rattle.frame_core.proofs.Searches.{count_from_full}
use Rattle.state_core.specs.declared.error.ZoneError.TheVariants.{Range, JournalFull, NoBlock}
use Rattle.zone_core.proofs.Claims.{all_claimed}
use Rattle.state_core.specs.Claiming.{is_claimed, run_dropped}
use Rattle.state_core.specs.HandingOut.{has_block, is_run}
use Rattle.state_core.specs.Valid.{IsValidZone}
use Rattle.state_core.specs.ZoneState.{ZoneState, has_room}
use Rattle.state_core.proofs.Claiming.{dropped_run}
use Rattle.fewest_core.specs.Claims.{claimed_frames}
use Rattle.zone_core.proofs.bare.BareZone.take_claimed.Goals as goal

pub drop_run-requires : goal.drop_run-requires
drop_run-requires g c =
    let same = c.deref_mut.ensures.value ∙ c.self.view_is in
    let block : has_block c.args.self.now c.args.order c.args.first ≡ true = ap (λ (u : ZoneState). has_block u c.args.order c.args.first) (sym (c.deref.ensures ∙ c.self.view_is)) ∙ sym c.has_block.ensures ∙ c.if-not-has_block.false in
    let claimed : claimed_frames c.args.first (2 ^ c.args.order) c.args.self.now ≡ 2 ^ c.args.order = all_claimed c.args.first (2 ^ c.args.order) c.args.self.now (omega (arith, c.if-claimed_frames-frames.false, c.frames.ensures.value, c.claimed_frames.ensures ∙ ap (claimed_frames c.args.first (2 ^ c.args.order)) (c.deref-3.ensures ∙ c.self.view_is))) in (
      omega arith,
      (ap (λ (u : ZoneState). has_block u c.args.order c.args.first) same ∙ block, ap (claimed_frames c.args.first (2 ^ c.args.order)) same ∙ claimed),
    )

pub hand_out-requires : goal.hand_out-requires
hand_out-requires g c =
    let same = c.deref_mut-2.ensures.value ∙ c.drop_run.ensures.step ∙ ap (run_dropped c.args.first (2 ^ c.args.order)) (c.deref_mut.ensures.value ∙ c.self.view_is) in
    let law = subst IsValidZone c.self.view_is c.self.invariant in
    let block : has_block c.args.self.now c.args.order c.args.first ≡ true = ap (λ (u : ZoneState). has_block u c.args.order c.args.first) (sym (c.deref.ensures ∙ c.self.view_is)) ∙ sym c.has_block.ensures ∙ c.if-not-has_block.false in
    let room : has_room c.args.self.now ≡ true = ap has_room (sym (c.deref-2.ensures ∙ c.self.view_is)) ∙ sym c.has_room.ensures ∙ c.if-not-has_room.false in
    let claimed : claimed_frames c.args.first (2 ^ c.args.order) c.args.self.now ≡ 2 ^ c.args.order = all_claimed c.args.first (2 ^ c.args.order) c.args.self.now (omega (arith, c.if-claimed_frames-frames.false, c.frames.ensures.value, c.claimed_frames.ensures ∙ ap (claimed_frames c.args.first (2 ^ c.args.order)) (c.deref-3.ensures ∙ c.self.view_is))) in (
      omega arith,
      (
        ap has_room same ∙ room,
        ap (λ (u : ZoneState). is_run u c.args.order c.args.first) same ∙ dropped_run c.args.self.now law c.args.first c.args.order block (λ frame. count_from_full (is_claimed c.args.self.now) c.args.first (2 ^ c.args.order) frame claimed),
      ),
    )

pub returns-clause-refused : goal.returns-clause-refused
returns-clause-refused g c =
    let block : has_block c.args.self.now c.args.order c.args.first ≡ true = ap (λ (u : ZoneState). has_block u c.args.order c.args.first) (sym (c.deref.ensures ∙ c.self.view_is)) ∙ sym c.has_block.ensures ∙ c.if-not-has_block.false in
    let room : has_room c.args.self.now ≡ true = ap has_room (sym (c.deref-2.ensures ∙ c.self.view_is)) ∙ sym c.has_room.ensures ∙ c.if-not-has_room.false in
    let claimed : claimed_frames c.args.first (2 ^ c.args.order) c.args.self.now ≡ 2 ^ c.args.order = all_claimed c.args.first (2 ^ c.args.order) c.args.self.now (omega (arith, c.if-claimed_frames-frames.false, c.frames.ensures.value, c.claimed_frames.ensures ∙ ap (claimed_frames c.args.first (2 ^ c.args.order)) (c.deref-3.ensures ∙ c.self.view_is))) in
    sym (λ i. if not (block i) then Some Range else if not (room i) then Some JournalFull else if not (eq-eqb _ _ claimed i) then Some NoBlock else None)
