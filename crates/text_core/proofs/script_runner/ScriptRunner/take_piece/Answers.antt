use Rattle.std.proofs.Common.{◌≡◌, ◌++◌, ◌∷◌, [], List, ℕ, length, length-append, refl, ap, sym, ◌∙◌, arith}
use Rattle.std.proofs.lemmas.Result.{err_from_is_err_and}
use Rattle.text_core.proofs.Reading.{ended, joined, well, reads_more, reads_none, reads_then}
use Rattle.text_core.proofs.script_runner.ScriptRunner.take_piece.Goals as goal

pub loop-text-init : goal.loop-text-init
loop-text-init g c = record { line = omega arith; done = ([], refl, reads_none g.A.Respond.may g.A.Respond.asks c.args.self.now (g.W.Write.contents c.args.writer.now)) }

-- the piece is what was read, a line, and what stands after it
piece_is : (piece done rest text after : List ℕ) → piece ≡ done ++ rest → rest ≡ text ++ 10 ∷ after → piece ≡ (done ++ (text ++ 10 ∷ [])) ++ after
piece_is piece done rest text after is parts = is ∙ ap (λ (r : List ℕ). done ++ r) parts ∙ sym (joined done text after)

pub returns-in_err-end_line-clause-reads : goal.returns-in_err-end_line-clause-reads
returns-in_err-end_line-clause-reads g c =
    let p = err_from_is_err_and c.from_residual.result c.from_residual.ensures.1 in
    let done = c.loop-text.invariant.done in
    let is = piece_is c.args.piece.now done.0 _ c.in-Some.text.now c.in-Some.after.now done.1 c.in-Some.ensures.parts in
    rw (p.1, p.2, is) (reads_more g.A.Respond.may g.A.Respond.asks c.args.self.now c.end_line.new.self _ c.in-Some.after.now _ _ c.in_err-end_line.field-0.0
    (reads_then g.A.Respond.may g.A.Respond.asks c.args.self.now c.loop-text.self c.end_line.new.self done.0 (c.in-Some.text.now ++ 10 ∷ []) (g.W.Write.contents c.args.writer.now) (g.W.Write.contents c.loop-text.writer) (g.W.Write.contents c.end_line.new.writer) (ended c.in_err-end_line.field-0.0) done.2 c.in_err-end_line.ensures.reads))

pub loop-text-preserved : goal.loop-text-preserved
loop-text-preserved g c =
    let done = c.loop-text.invariant.done in
    let text = c.in-Some.text.now in
    let after = c.in-Some.after.now in
    record {
      line = omega (arith, c.in_ok-end_line.ensures.line, c.loop-text.invariant.line, ap length c.in-Some.ensures.parts, length-append text (10 ∷ after));
      done = (
        done.0 ++ (text ++ 10 ∷ []),
        piece_is c.args.piece.now done.0 _ text after done.1 c.in-Some.ensures.parts,
        reads_then g.A.Respond.may g.A.Respond.asks c.args.self.now c.loop-text.self c.end_line.new.self done.0 (text ++ 10 ∷ []) (g.W.Write.contents c.args.writer.now) (g.W.Write.contents c.loop-text.writer) (g.W.Write.contents c.end_line.new.writer) well done.2 c.in_ok-end_line.ensures.reads,
      );
    }

pub returns-clause-reads : goal.returns-clause-reads
returns-clause-reads g c =
    let done = c.loop-text.invariant.done in
    rw done.1 (reads_then g.A.Respond.may g.A.Respond.asks c.args.self.now c.loop-text.self c.hold.new.self done.0 _ (g.W.Write.contents c.args.writer.now) (g.W.Write.contents c.loop-text.writer) (g.W.Write.contents c.loop-text.writer) c.hold.result done.2 (c.hold.ensures.reads _))
