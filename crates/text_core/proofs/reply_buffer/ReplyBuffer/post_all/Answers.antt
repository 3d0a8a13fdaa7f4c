use Rattle.std.proofs.Common.{◌≡◌, ◌++◌, ◌∷◌, [], List, length, ap, refl, rules, sym, subst, ◌∙◌, append_assoc, append-nil, arith}
use Rattle.std.proofs.lemmas.Result.{err_from_is_err_and}
use Rattle.std.specs.Vec.Iter.{into_iter_items}
use Rattle.text_core.specs.Script.{StopsIn, Answer}
use Rattle.text_core.specs.ReplyBuffer.{Owes}
use Rattle.text_core.proofs.Waiting.{stops_more}
use Rattle.text_core.proofs.reply_buffer.ReplyBuffer.post_all.Goals as goal

nothing_left : (l : List Answer) → length l ≡ 0 → l ≡ []
nothing_left [] h = refl
nothing_left (x ∷ xs) h = absurd (omega arith)

pub loop-answer-init : goal.loop-answer-init
loop-answer-init g c = (
  refl,
  search rules,
  λ answers first owes.
      let O : List Answer → Type 0 = λ list. Owes c.args.self.now list first (g.W.Write.contents c.args.writer.now) in
      subst O (sym (append-nil answers)) owes,
)

pub loop-answer-preserved : goal.loop-answer-preserved
loop-answer-preserved g c =
    let at = c.loop-answer in
    let x = c.in-Some.answer in
    let steps : into_iter_items at.answer-iterator ≡ x ∷ into_iter_items c.next.new.self = c.in-Some.ensures.steps.0 in (
      append_assoc at.yielded (x ∷ []) _ ∙ rw (← steps) at.invariant.0,
      let was = at.invariant.1 in
          let gone = c.in-Some.ensures.steps.1 in
          let short = ap length steps in
          omega arith,
      λ answers first owes.
          let O : List Answer → Type 0 = λ list. Owes c.post.new.self list first (g.W.Write.contents c.post.new.writer) in
          let T : Answer → Type 0 = λ a. Owes c.post.new.self ((answers ++ at.yielded) ++ a ∷ []) first (g.W.Write.contents c.post.new.writer) in
          subst O (append_assoc answers at.yielded (x ∷ [])) (subst T (sym c.into_parts-line.ensures) (c.in_ok-post.ensures.ok (answers ++ at.yielded) first (at.invariant.2 answers first owes))),
    )

pub returns-in_err-post-clause-err : goal.returns-in_err-post-clause-err
returns-in_err-post-clause-err g c =
    let p = err_from_is_err_and c.from_residual.result c.from_residual.ensures.1 in
    rw (p.1, p.2) (λ answers first owes.
    let at = c.loop-answer in
    let rest = into_iter_items at.answer-iterator in
    let after = g.W.Write.contents c.post.new.writer in
    let line = c.in_err-post.field-0.0 in
    let S : List Answer → Type 0 = λ list. StopsIn list first after line in
    subst S (append_assoc answers at.yielded rest ∙ ap (λ (list : List Answer). answers ++ list) (at.invariant.0 ∙ c.into_iter-answer-iterator.ensures.into_iter_gives.0))
    (stops_more (answers ++ at.yielded) rest first after line (c.in_err-post.ensures.err (answers ++ at.yielded) first (at.invariant.2 answers first owes))))

pub returns-clause-ok : goal.returns-clause-ok
returns-clause-ok g c = λ answers first owes.
    let at = c.loop-answer in
    let none = c.in-None.ensures.steps in
    let empty : into_iter_items at.answer-iterator ≡ [] = nothing_left _ (sym at.invariant.1 ∙ none.0) in
    let all = sym (append-nil at.yielded) ∙ rw empty at at.invariant.0 ∙ c.into_iter-answer-iterator.ensures.into_iter_gives.0 in
    let O : List Answer → Type 0 = λ list. Owes at.self list first (g.W.Write.contents at.writer) in
    subst O (ap (λ (list : List Answer). answers ++ list) all) (at.invariant.2 answers first owes)
