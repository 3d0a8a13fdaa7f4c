use Rattle.std.proofs.Common.{◌∙◌, refl, sym, subst, inr, rules}
use Rattle.huge_core.specs.Huge.{IsRefused}
use Rattle.huge_core.proofs.Refused.{no_block}
use Rattle.huge_core.proofs.Running.{not_begun, run_on, stopped, idled}
use Rattle.huge_core.proofs.collector.Collector.reserve.Goals as goal
use Rattle.huge_core.proofs.collector.Collector.reserve.Goals.{in_default, in-Err+in-JournalFull, in-Err+in_default-error+then-rounds-self, in-Err+in_default-error+else-rounds-self+in-Ok+then-round-eq0, in-Err+in_default-error+else-rounds-self+in-Err-compact}

pub loop-error-init : goal.loop-error-init
loop-error-init g c = record {
  most = search rules;
  got = search rules;
  running = not_begun c.args.self.now c.args.seats.now.scan c.args.seats.now.ends;
}

pub loop-error-preserved : goal.loop-error-preserved
loop-error-preserved g c = record {
  most = search rules;
  got = c.fill.ensures.got;
  running = run_on c.args.self.now c.args.seats.now.scan c.loop-error.seats.scan c.compact.new.seats.scan
      c.args.seats.now.ends c.loop-error.seats.ends c.compact.new.seats.ends c.loop-error.rounds c.in-Ok.round
      c.loop-error.invariant.running c.if-rounds-self.false
      (no_block c.args.self.now.order c.in-Err.error c.in-Err.ensures.refused c.in_default-error.not-JournalFull)
      c.in-Ok.ensures.round c.if-round-eq0.false;
}

pub returns-clause-rounds : goal.returns-clause-rounds
returns-clause-rounds g c =
    let collector = c.args.self.now in
    let scan = c.args.seats.now.scan in
    let ends = c.args.seats.now.ends in
    let was = c.loop-error in
    let running = was.invariant.running in
    elim c.match-fill.branch [
      | in_default w ↦ rw (w.seats-is, w.rounds-is, w.stop-is)
          (stopped collector scan was.seats.scan was.seats.scan ends was.seats.ends was.seats.ends _ running (refl, refl)
          (λ rounds is moved. moved))
      | in-Err+in-JournalFull w ↦ rw (w.seats-is, w.rounds-is, w.stop-is)
          (stopped collector scan was.seats.scan was.seats.scan ends was.seats.ends was.seats.ends _ running (refl, refl)
          (λ rounds is moved. inr (moved, subst (IsRefused collector.order) w.in-JournalFull.is w.in-Err.ensures.refused)))
      | in-Err+in_default-error+then-rounds-self w ↦ rw (w.seats-is, w.rounds-is, w.stop-is)
          (stopped collector scan was.seats.scan was.seats.scan ends was.seats.ends was.seats.ends _ running (refl, refl)
          (λ rounds is moved. (
            moved,
            sym is ∙ w.if-rounds-self.true,
            no_block collector.order w.in-Err.error w.in-Err.ensures.refused w.in_default-error.not-JournalFull,
          )))
      | in-Err+in_default-error+else-rounds-self+in-Ok+then-round-eq0 w ↦ rw (w.seats-is, w.rounds-is, w.stop-is)
          (idled collector scan was.seats.scan w.compact.new.seats.scan ends was.seats.ends w.compact.new.seats.ends _ was.rounds w.in-Ok.round
          running w.if-rounds-self.false (no_block collector.order w.in-Err.error w.in-Err.ensures.refused w.in_default-error.not-JournalFull) refl
          w.in-Ok.ensures.round w.if-round-eq0.true w.in-Ok.ensures.unlimited w.idle_stop-stop.ensures.met w.idle_stop-stop.ensures.full)
      | in-Err+in_default-error+else-rounds-self+in-Err-compact w ↦ rw (w.seats-is, w.rounds-is, w.stop-is)
          (stopped collector scan was.seats.scan w.compact.new.seats.scan ends was.seats.ends w.compact.new.seats.ends _ running
          (rw w.in-Err-compact.is at w.compact.ensures.early)
          (λ rounds is moved. (moved, no_block collector.order w.in-Err.error w.in-Err.ensures.refused w.in_default-error.not-JournalFull)))
    ]
