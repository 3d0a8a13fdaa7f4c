use Rattle.std.proofs.Common.{List, ℕ, ◌+◌, ◌≤◌, ◌∷◌, [], ◌++◌, ◌∙◌, length, sym, subst, arith}
use Rattle.std.proofs.lemmas.Result.{err_from_is_err_and}
use Rattle.text_core.specs.Reply.{text_of}
use Rattle.text_core.specs.ReplyBuffer.{IsMarked, ReplyBuffer, Owes}
use Rattle.text_core.specs.Script.{Answer}
use Rattle.text_core.proofs.Waiting.{marked_more, owes_empty, owes_more}
use Rattle.text_core.proofs.reply_buffer.ReplyBuffer.post.Goals.{then-remaining_capacity-lt160+in_ok-flush, else-remaining_capacity-lt160}
use Rattle.text_core.proofs.reply_buffer.ReplyBuffer.post.Goals as goal

-- there is room for one more reply
abbrev HasRoom : ReplyBuffer → Type 0
HasRoom box = length box.bytes + 160 ≤ 4096

pub push_reply-requires : goal.push_reply-requires
push_reply-requires g c =
    let room : HasRoom c.if-remaining_capacity-lt160.self = elim c.if-remaining_capacity-lt160.branch [
      | then-remaining_capacity-lt160+in_ok-flush w ↦ subst HasRoom (sym (w.self-is ∙ w.in_ok-flush.ensures.empty)) (omega arith)
      | else-remaining_capacity-lt160 w ↦
          subst HasRoom (sym w.self-is) (subst HasRoom c.self.view_is (omega (arith, c.remaining_capacity.ensures, w.if-remaining_capacity-lt160.false)))
    ] in
    (omega arith, subst HasRoom (sym c.self-2.view_is) room)

pub invariant_of-self : goal.invariant_of-self
invariant_of-self g c =
    let bytes = c.self-2.inside.text.bytes in
    let M : List ℕ → Type 0 = λ bs. IsMarked bs c.push.new.self.items in
    let L : List ℕ → Type 0 = λ ls. IsMarked (bytes ++ text_of c.args.reply.now) ls in
    subst M (sym c.push_reply.ensures.text)
    (subst L (sym c.push.ensures.items) (marked_more bytes c.self-2.inside.lines.items (text_of c.args.reply.now) c.args.line c.self-2.invariant c.push_reply.ensures.line))

pub returns-clause-ok : goal.returns-clause-ok
returns-clause-ok g c = λ answers first owes.
    let at = c.if-remaining_capacity-lt160 in
    let now = g.W.Write.contents at.writer in
    let new : Answer = record { line = c.args.line; reply = c.args.reply.now } in
    let box : ReplyBuffer = record { bytes = c.self-2.inside.text.bytes; lines = c.self-2.inside.lines.items } in
    let B : ReplyBuffer → Type 0 = λ box. Owes box answers first now in
    let waits : B at.self = elim at.branch [
      | then-remaining_capacity-lt160+in_ok-flush w ↦
          subst B (sym (w.self-is ∙ w.in_ok-flush.ensures.empty)) (rw w.writer-is (owes_empty answers first _ (w.in_ok-flush.ensures.ok answers first owes)))
      | else-remaining_capacity-lt160 w ↦ subst B (sym w.self-is) (rw w.writer-is owes)
    ] in
    let N : List ℕ → Type 0 = λ bs. Owes (record { bytes = bs; lines = c.push.new.self.items }) (answers ++ new ∷ []) first now in
    let L : List ℕ → Type 0 = λ ls. Owes (record { bytes = box.bytes ++ text_of new.reply; lines = ls }) (answers ++ new ∷ []) first now in
    subst N (sym c.push_reply.ensures.text)
    (subst L (sym c.push.ensures.items) (owes_more box answers first now new (subst B (sym c.self-2.view_is) waits) c.push_reply.ensures.line))

pub returns-in_err-flush-clause-err : goal.returns-in_err-flush-clause-err
returns-in_err-flush-clause-err g c =
    let p = err_from_is_err_and c.from_residual.result c.from_residual.ensures.1 in
    rw (p.1, p.2) c.in_err-flush.ensures.err
