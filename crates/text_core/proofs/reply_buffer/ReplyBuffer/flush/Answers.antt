use Rattle.std.proofs.Common.{◌≡◌, ◌∙◌, ℕ, ◌<◌, List, length, take, get_or, ap, sym, subst, arith}
use Rattle.std.specs.Io.KnownBytes.{Appends}
use Rattle.text_core.specs.Script.{StopsIn}
use Rattle.text_core.specs.ReplyBuffer.{ReplyBuffer}
use Rattle.text_core.specs.Reply.{newlines}
use Rattle.text_core.proofs.Waiting.{owes_stops}
use Rattle.text_core.proofs.reply_buffer.ReplyBuffer.flush.Goals as goal

pub returns-in-Err-clause-err : goal.returns-in-Err-clause-err
returns-in-Err-clause-err g c = λ answers first owes.
    let box = c.args.self.now in
    let n = c.in-Err.taken in
    let mid = g.W.Write.contents c.args.writer.now in
    let after = g.W.Write.contents c.write_out.new.writer in
    let bytes : c.as_bytes-bytes.result.now ≡ box.bytes = c.as_bytes-bytes.ensures.value ∙ c.as_str.ensures.value ∙ ap (λ (b : ReplyBuffer). b.bytes) c.self.view_is in
    let lines : c.deref.result.now ≡ box.lines = c.deref.ensures.0 ∙ ap (λ (b : ReplyBuffer). b.lines) c.self.view_is in
    let whole = c.newlines_in-whole.result in
    let count : whole ≡ newlines (take n box.bytes) = c.newlines_in-whole.ensures ∙ ap (λ (r : List ℕ). newlines (take n r)) bytes in
    let at : get_or c.deref.result.now whole 0 ≡ get_or box.lines (newlines (take n box.bytes)) 0 =
    ap (λ (r : List ℕ). get_or r whole 0) lines ∙ ap (λ (k : ℕ). get_or box.lines k 0) count in
    let less : n < length box.bytes = omega (arith, c.in-Err.ensures.less, ap length bytes) in
    let A : List ℕ → Type 0 = λ r. Appends mid after (take n r) in
    let S : ℕ → Type 0 = λ line. StopsIn answers first after line in
    subst S (sym at) (owes_stops box answers first mid after n owes less (subst A bytes c.in-Err.ensures.err))
