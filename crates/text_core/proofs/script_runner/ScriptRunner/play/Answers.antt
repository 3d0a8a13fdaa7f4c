use Rattle.std.proofs.Common.{refl, Result}
use Rattle.std.proofs.lemmas.Result.{err_from_is_err_and}
use Rattle.text_core.specs.declared.fault.RunError.{RunError}
use Rattle.text_core.specs.ScriptRunner.{PlaysOn}
use Rattle.text_core.proofs.Closing.{plays_closed, plays_cut, plays_flushed, plays_late, plays_stopped}
use Rattle.text_core.proofs.Variants.{both_err, both_ok, by_result, not_true}
use Rattle.text_core.proofs.script_runner.ScriptRunner.play.Goals as goal

pub returns-in-Ok-clause-plays : goal.returns-in-Ok-clause-plays
returns-in-Ok-clause-plays g c =
    let s = c.args.self.now in
    let mid = c.take_piece.new.self in
    let bytes = c.args.piece.now in
    let now = g.W.Write.contents c.args.writer.now in
    let between = g.W.Write.contents c.take_piece.new.writer in
    let after = g.W.Write.contents c.flush.new.writer in
    let F : Result (Unit {0}) RunError → Type 0 = λ r. PlaysOn g.A.Respond.may g.A.Respond.asks s c.flush.new.self bytes now after r in
    by_result F c.flush.result (both_ok c.flush.result _ _ c.flush.ensures.empty c.flush.ensures.ok) (both_err c.flush.result _ _ c.flush.ensures.write c.flush.ensures.err)
    (λ _ both. rw both.0 (plays_flushed g.A.Respond.may g.A.Respond.asks s mid bytes now between after c.in-Ok.ensures.reads both.1))
    (λ e both. plays_stopped g.A.Respond.may g.A.Respond.asks s mid bytes now between after c.flush.new.self e both.0 c.in-Ok.ensures.reads both.1)

pub returns-in-Err-clause-plays : goal.returns-in-Err-clause-plays
returns-in-Err-clause-plays g c =
    let after = g.W.Write.contents c.take_piece.new.writer in
    plays_cut g.A.Respond.may g.A.Respond.asks c.args.self.now c.take_piece.new.self c.args.piece.now (g.W.Write.contents c.args.writer.now) after after c.take_piece.new.self c.in-Err.error (c.if-is_of_writer.ensures.0 refl) c.in-Err.ensures.reads

pub returns-in_err-flush-in-Err-2-clause-plays : goal.returns-in_err-flush-in-Err-2-clause-plays
returns-in_err-flush-in-Err-2-clause-plays g c =
    let p = err_from_is_err_and c.from_residual.result c.from_residual.ensures.1 in
    rw (p.1, p.2) (plays_late g.A.Respond.may g.A.Respond.asks c.args.self.now c.take_piece.new.self c.args.piece.now (g.W.Write.contents c.args.writer.now) (g.W.Write.contents c.take_piece.new.writer) (g.W.Write.contents c.flush-in-Err-2.new.writer) c.flush-in-Err-2.new.self c.in-Err.error
    (λ is. not_true (c.if-is_of_writer.ensures.1 is)) c.in-Err.ensures.reads c.in_err-flush-in-Err-2.field-0.0 c.in_err-flush-in-Err-2.ensures.write c.in_err-flush-in-Err-2.ensures.err)

pub returns-in_ok-flush-in-Err-2-clause-plays : goal.returns-in_ok-flush-in-Err-2-clause-plays
returns-in_ok-flush-in-Err-2-clause-plays g c =
    plays_closed g.A.Respond.may g.A.Respond.asks c.args.self.now c.take_piece.new.self c.args.piece.now (g.W.Write.contents c.args.writer.now) (g.W.Write.contents c.take_piece.new.writer) (g.W.Write.contents c.flush-in-Err-2.new.writer) c.flush-in-Err-2.new.self c.in-Err.error
    (λ is. not_true (c.if-is_of_writer.ensures.1 is)) c.in-Err.ensures.reads c.in_ok-flush-in-Err-2.ensures.ok
