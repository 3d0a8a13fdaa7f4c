use Rattle.std.proofs.Common.{◌≡◌, ◌∙◌, Some, refl, sym, subst, inr, rules, arith}
use Rattle.state_core.specs.HandingOut.{take_order_refusal}
use Rattle.state_core.specs.declared.error.ZoneError.{ZoneError}
use Rattle.state_core.specs.declared.error.ZoneError.TheVariants as zone
use Rattle.huge_core.specs.Huge.{IsRefused}
use Rattle.huge_core.proofs.ByHand.{begun_by_hand, filled_by_hand, ran_by_hand, round_moves, round_idles}
use Rattle.huge_core.proofs.Refused.{refused_by, refused_no_block}
use Rattle.huge_core.proofs.Running.{not_begun, run_on, stopped, idled}
use Rattle.huge_core.proofs.StoppedByHand.{valid_kept, wanting, stopped_enough, stopped_full, stopped_rounds, stopped_refused, stopped_idle}
use Rattle.huge_core.proofs.alone.reserve_alone.Goals as goal
use Rattle.huge_core.proofs.alone.reserve_alone.Goals.{in_default, in-Err+in-JournalFull, in-Err+in_default-error+then-rounds-collector, in-Err+in_default-error+else-rounds-collector+in-Ok+then-round-eq0, in-Err+in_default-error+else-rounds-collector+in-Err-result}

pub loop-error-init : goal.loop-error-init
loop-error-init g c = record {
  fewer = search rules;
  got = search rules;
  running = not_begun c.args.collector.now c.args.seats.now.scan c.args.seats.now.ends;
  hand = λ rest. rw c.new-got.ensures (begun_by_hand c.args.collector.now.order c.args.n c.args.zone rest);
  identity = (refl, refl);
}

pub loop-error-preserved : goal.loop-error-preserved
loop-error-preserved g c =
    let collector = c.args.collector.now in
    let order = collector.order in
    let start = c.args.zone in
    let scan = c.args.seats.now.scan in
    let ends = c.args.seats.now.ends in
    let was = c.loop-error in
    let filled = c.fill_alone in
    let now = filled.new.zone in
    let got = filled.new.got.items in
    let err = c.in-Err.ensures in
    let none = refused_no_block now order c.in-Err.error err.refused c.in_default-error.not-JournalFull in
    let run = c.compact_alone-after in
    let round = c.in-Ok.round in
    let is_round = rw c.in-Ok.is at run.ensures.round in
    let count = rw c.in-Ok.is at run.ensures.count in
    let none_back = rw c.in-Ok.is at run.ensures.none_back in
    record {
      fewer = err.err;
      got = filled.ensures.got;
      running = run_on collector scan was.seats.scan run.new.seats.scan ends was.seats.ends run.new.seats.ends was.rounds round
          was.invariant.running c.if-rounds-collector.false (refused_by now order zone.NoBlock filled.ensures.valid none)
          is_round c.if-round-eq0.false;
      hand = λ rest.
          let here = filled_by_hand order c.args.n start was.zone now was.got.items was.rounds got
          filled.ensures.filled filled.ensures.rest (was.invariant.hand rest) in
          ran_by_hand order c.args.n start now run.result.0 got was.rounds filled.ensures.low filled.ensures.high err.err none
          (round_moves now round count none_back is_round.sum c.if-round-eq0.false)
          (rw c.in-Ok.is at run.ensures.exact) run.ensures.kept.valid here;
      identity = search rules;
    }

pub returns-clause-kept : goal.returns-clause-kept
returns-clause-kept g c =
    let kept = valid_kept c.fill_alone.new.zone c.fill_alone.ensures.valid in
    elim c.match-fill_alone.branch [
      | in_default w ↦ rw w.zone-is kept
      | in-Err+in-JournalFull w ↦ rw w.zone-is kept
      | in-Err+in_default-error+then-rounds-collector w ↦ rw w.zone-is kept
      | in-Err+in_default-error+else-rounds-collector+in-Ok+then-round-eq0 w ↦ rw w.zone-is w.compact_alone-after.ensures.kept
      | in-Err+in_default-error+else-rounds-collector+in-Err-result w ↦ rw w.zone-is w.compact_alone-after.ensures.kept
    ]

pub returns-clause-exact : goal.returns-clause-exact
returns-clause-exact g c = λ rest.
    let collector = c.args.collector.now in
    let order = collector.order in
    let n = c.args.n in
    let start = c.args.zone in
    let was = c.loop-error in
    let filled = c.fill_alone in
    let now = filled.new.zone in
    let got = filled.new.got in
    let ran = was.rounds in
    let most = was.invariant.running.most in
    let here = filled_by_hand order n start was.zone now was.got.items ran got.items
    filled.ensures.filled filled.ensures.rest (was.invariant.hand rest) in
    elim c.match-fill_alone.branch [
      | in_default w ↦ rw (w.zone-is, w.rounds-is, w.stop-is)
          (stopped_enough collector n start now got ran here most (rw w.in_default.is at filled.ensures.ok))
      | in-Err+in-JournalFull w ↦ rw (w.zone-is, w.rounds-is, w.stop-is)
          (stopped_full collector n start now got ran here w.in-Err.ensures.err most
          (subst (λ (e : ZoneError). take_order_refusal now order ≡ Some e) w.in-JournalFull.is w.in-Err.ensures.refused))
      | in-Err+in_default-error+then-rounds-collector w ↦ rw (w.zone-is, w.rounds-is, w.stop-is)
          (stopped_rounds collector n start now got ran here w.in-Err.ensures.err
          (refused_no_block now order w.in-Err.error w.in-Err.ensures.refused w.in_default-error.not-JournalFull)
          w.if-rounds-collector.true)
      | in-Err+in_default-error+else-rounds-collector+in-Ok+then-round-eq0 w ↦ rw (w.zone-is, w.rounds-is, w.stop-is)
          (let run = w.compact_alone-after in
          let round = w.in-Ok.round in
          let count = rw w.in-Ok.is at run.ensures.count in
          let none_back = rw w.in-Ok.is at run.ensures.none_back in
          let idles = round_idles now round count none_back (rw w.in-Ok.is at run.ensures.round).sum w.if-round-eq0.true in
          stopped_idle collector n start now got ran here w.in-Err.ensures.err
          (refused_no_block now order w.in-Err.error w.in-Err.ensures.refused w.in_default-error.not-JournalFull)
          (omega arith) idles run.result.0 (rw w.in-Ok.is at run.ensures.exact) round.stopped (rw w.in-Ok.is at run.ensures.stopped)
          (rw w.in-Ok.is at run.ensures.unlimited)
          w.idle_stop-stop.result w.idle_stop-stop.ensures.met w.idle_stop-stop.ensures.full)
      | in-Err+in_default-error+else-rounds-collector+in-Err-result w ↦ rw (w.zone-is, w.rounds-is, w.stop-is)
          (let run = w.compact_alone-after in
          let error = w.in-Err-result.error in
          stopped_refused collector n start now got ran here w.in-Err.ensures.err
          (refused_no_block now order w.in-Err.error w.in-Err.ensures.refused w.in_default-error.not-JournalFull) run.result.0 error
          (wanting error now run.result.0 was.seats.scan run.new.seats.scan was.seats.ends run.new.seats.ends
          (rw w.in-Err-result.is at run.ensures.early) run.ensures.unbegun))
    ]

pub returns-clause-rounds : goal.returns-clause-rounds
returns-clause-rounds g c =
    let collector = c.args.collector.now in
    let order = collector.order in
    let scan = c.args.seats.now.scan in
    let ends = c.args.seats.now.ends in
    let was = c.loop-error in
    let running = was.invariant.running in
    let now = c.fill_alone.new.zone in
    let valid = c.fill_alone.ensures.valid in
    elim c.match-fill_alone.branch [
      | in_default w ↦ rw (w.seats-is, w.rounds-is, w.stop-is)
          (stopped collector scan was.seats.scan was.seats.scan ends was.seats.ends was.seats.ends _ running (refl, refl)
          (λ rounds is moved. moved))
      | in-Err+in-JournalFull w ↦ rw (w.seats-is, w.rounds-is, w.stop-is)
          (let full = refused_by now order w.in-Err.error valid w.in-Err.ensures.refused in
          stopped collector scan was.seats.scan was.seats.scan ends was.seats.ends was.seats.ends _ running (refl, refl)
          (λ rounds is moved. inr (moved, subst (IsRefused order) w.in-JournalFull.is full)))
      | in-Err+in_default-error+then-rounds-collector w ↦ rw (w.seats-is, w.rounds-is, w.stop-is)
          (let none = refused_no_block now order w.in-Err.error w.in-Err.ensures.refused w.in_default-error.not-JournalFull in
          stopped collector scan was.seats.scan was.seats.scan ends was.seats.ends was.seats.ends _ running (refl, refl)
          (λ rounds is moved. (moved, sym is ∙ w.if-rounds-collector.true, refused_by now order zone.NoBlock valid none)))
      | in-Err+in_default-error+else-rounds-collector+in-Ok+then-round-eq0 w ↦ rw (w.seats-is, w.rounds-is, w.stop-is)
          (let none = refused_no_block now order w.in-Err.error w.in-Err.ensures.refused w.in_default-error.not-JournalFull in
          let run = w.compact_alone-after in
          idled collector scan was.seats.scan run.new.seats.scan ends was.seats.ends run.new.seats.ends _ was.rounds w.in-Ok.round
          running w.if-rounds-collector.false (refused_by now order zone.NoBlock valid none) refl
          (rw w.in-Ok.is at run.ensures.round) w.if-round-eq0.true (rw w.in-Ok.is at run.ensures.unlimited)
          w.idle_stop-stop.ensures.met w.idle_stop-stop.ensures.full)
      | in-Err+in_default-error+else-rounds-collector+in-Err-result w ↦ rw (w.seats-is, w.rounds-is, w.stop-is)
          (let none = refused_no_block now order w.in-Err.error w.in-Err.ensures.refused w.in_default-error.not-JournalFull in
          let run = w.compact_alone-after in
          stopped collector scan was.seats.scan run.new.seats.scan ends was.seats.ends run.new.seats.ends _ running
          (rw w.in-Err-result.is at run.ensures.early)
          (λ rounds is moved. (moved, refused_by now order zone.NoBlock valid none)))
    ]
