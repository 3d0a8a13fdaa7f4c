use Rattle.std.proofs.Common.{arith}
use Rattle.std.proofs.lemmas.Bool.Decides.{nat_tests}
use Rattle.compactd_c.proofs.Turns.{HaveTurns-more}
use Rattle.compactd_c.proofs.batches.change_all.Goals.{then-first-eq0, else-first-eq0}
use Rattle.compactd_c.proofs.batches.change_all.Goals as goal

pub loop-request-preserved : goal.loop-request-preserved
loop-request-preserved c =
    let l = c.loop-request in
    let j = c.if-first-eq0 in
    let more = HaveTurns-more c.args.client c.args.change c.args.zone.now c.args.requests.now l.request-index _ c.loop-request-test.true l.zone l.requests l.first
    c.change_one.new.request c.change_one.new.zone j.requests j.first l.invariant c.change_one.ensures.request c.change_one.ensures.zone in
    elim j.branch [
      | then-first-eq0 w ↦ let none = w.if-first-eq0.true in more w.requests-is (grind (arith, nat_tests))
      | else-first-eq0 w ↦ let some = w.if-first-eq0.false in more w.requests-is (grind (arith, nat_tests))
    ]
