use Rattle.std.proofs.Common.{◌≡◌, ◌++◌, ℕ, List, Option, length}
use Rattle.std.specs.Vec.Iter.{into_iter_items, into_iter_len}
use Rattle.text_core.specs.ReplyBuffer.{Owes}
use Rattle.text_core.specs.Script.{Answer}
use Rattle.text_core.proofs.reply_buffer.ReplyBuffer.post_all.Given as goal

-- the answers taken from the list so far stand after those that waited
abbrev pub invariant-loop-answer : goal.invariant-loop-answer
invariant-loop-answer g l = (l.yielded ++ into_iter_items l.answer-iterator ≡ into_iter_items l.initial.answer-iterator)
    × (into_iter_len l.answer-iterator ≡ length (into_iter_items l.answer-iterator))
    × ((answers : List Answer) (first : Option (List ℕ)) → Owes l.fn.self answers first (g.W.Write.contents l.fn.writer)
    → Owes l.self (answers ++ l.yielded) first (g.W.Write.contents l.writer))
