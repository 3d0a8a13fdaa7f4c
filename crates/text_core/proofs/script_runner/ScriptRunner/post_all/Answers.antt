use Rattle.std.proofs.Common.{◌≡◌, ◌++◌, ◌∷◌, [], List, ap, sym, subst, ◌∙◌, append_assoc}
use Rattle.std.proofs.lemmas.Result.{MatchResult-weaker, err_from_is_err_and, on_ok_weaker}
use Rattle.text_core.specs.Script.{StopsIn, Answer}
use Rattle.text_core.specs.ReplyBuffer.{Owes}
use Rattle.text_core.specs.ScriptRunner.{ScriptRunner}
use Rattle.text_core.proofs.Waiting.{stops_more}
use Rattle.text_core.proofs.script_runner.ScriptRunner.post_all.Goals as goal

-- the block's own answer comes after those to its client lines
all_after : (before clients answers : List Answer) (own : Answer) → answers ≡ clients ++ own ∷ [] → (before ++ clients) ++ own ∷ [] ≡ before ++ answers
all_after before clients answers own is = append_assoc before clients (own ∷ []) ∙ ap (λ (list : List Answer). before ++ list) (sym is)

pub returns-in_err-post_all-clause-err : goal.returns-in_err-post_all-clause-err
returns-in_err-post_all-clause-err g c =
    let p = err_from_is_err_and c.from_residual.result c.from_residual.ensures.1 in
    rw (p.1, p.2) (λ before first owes.
    let O : ScriptRunner _ → Type 0 = λ s. Owes s.box before first (g.W.Write.contents c.args.writer.now) in
    let clients = c.into_parts-clients.result.0.items in
    let own = c.into_parts-clients.result.1 in
    let after = g.W.Write.contents c.post_all.new.writer in
    let S : List Answer → Type 0 = λ list. StopsIn list first after c.in_err-post_all.field-0.0 in
    subst S (all_after before clients c.args.answers own c.into_parts-clients.ensures.parts)
    (stops_more (before ++ clients) (own ∷ []) first after c.in_err-post_all.field-0.0 (c.in_err-post_all.ensures.err before first (subst O (sym c.self.view_is) owes))))

pub returns-clause-err : goal.returns-clause-err
returns-clause-err g c = MatchResult-weaker c.post.result c.post.ensures.err (λ _ u. u) (λ at stops before first owes.
    let O : ScriptRunner _ → Type 0 = λ s. Owes s.box before first (g.W.Write.contents c.args.writer.now) in
    let clients = c.into_parts-clients.result.0.items in
    let own : Answer = record { line = c.into_parts-line.result.0; reply = c.into_parts-line.result.1 } in
    let parts : c.args.answers ≡ clients ++ own ∷ [] = c.into_parts-clients.ensures.parts ∙ ap (λ (a : Answer). clients ++ a ∷ []) c.into_parts-line.ensures in
    let S : List Answer → Type 0 = λ list. StopsIn list first (g.W.Write.contents c.post.new.writer) at in
    subst S (all_after before clients c.args.answers own parts)
    (stops_more (before ++ clients) (own ∷ []) first (g.W.Write.contents c.post.new.writer) at
    (stops (before ++ clients) first (c.in_ok-post_all.ensures.ok before first (subst O (sym c.self.view_is) owes)))))

pub returns-clause-ok : goal.returns-clause-ok
returns-clause-ok g c = on_ok_weaker c.post.result (λ keeps before first owes.
    let O : ScriptRunner _ → Type 0 = λ s. Owes s.box before first (g.W.Write.contents c.args.writer.now) in
    let clients = c.into_parts-clients.result.0.items in
    let own : Answer = record { line = c.into_parts-line.result.0; reply = c.into_parts-line.result.1 } in
    let parts : c.args.answers ≡ clients ++ own ∷ [] = c.into_parts-clients.ensures.parts ∙ ap (λ (a : Answer). clients ++ a ∷ []) c.into_parts-line.ensures in
    let A : List Answer → Type 0 = λ list. Owes c.post.new.self list first (g.W.Write.contents c.post.new.writer) in
    subst A (all_after before clients c.args.answers own parts)
    (keeps (before ++ clients) first (c.in_ok-post_all.ensures.ok before first (subst O (sym c.self.view_is) owes)))) c.post.ensures.ok
