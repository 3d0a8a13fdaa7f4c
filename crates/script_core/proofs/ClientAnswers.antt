-- The answers to a client's lines, from one line to the next.
use Rattle.std.proofs.Common.{◌≡◌, ℕ, suc, List, [], ◌∷◌, ◌++◌, length, refl, sym, ap, subst, Option, Some, None, Result, Ok, Err}
use Rattle.state_core.specs.declared.call.ZoneAnswer.{ZoneAnswer}
use Rattle.state_core.specs.declared.call.ZoneCall.{ZoneCall}
use Rattle.client_core.specs.declared.error.ClientError.{ClientError}
use Rattle.client_core.specs.Receipts.{Client}
use Rattle.text_core.specs.declared.reply.Reply.{Reply}
use Rattle.script_core.specs.Clients.{AreClientAnswers, IsClientReply, IsMade}
use Rattle.text_core.specs.Script.{Answer, ClientLine}

-- one more line is answered
pub client_answers_more : (old mid new : Client) (clients : List ClientLine) (answers : List Answer) (c : ClientLine) (a : Answer)
    → AreClientAnswers old clients answers mid → a.line ≡ c.line → IsClientReply mid c.call a.reply new
    → AreClientAnswers old (clients ++ c ∷ []) (answers ++ a ∷ []) new
client_answers_more old mid new [] [] c a told at here =
    let R : Client → Type 0 = λ s. IsClientReply s c.call a.reply new in
    (new, at, subst R told here, refl)
client_answers_more old mid new [] (b ∷ answers) c a told at here = absurd told
client_answers_more old mid new (d ∷ clients) [] c a told at here = absurd told
client_answers_more old mid new (d ∷ clients) (b ∷ answers) c a told at here =
    (told.0, told.1, told.2, client_answers_more told.0 mid new clients answers c a told.3 at here)

-- there is one answer for each line
pub length-client_answers : (old new : Client) (clients : List ClientLine) (answers : List Answer) → AreClientAnswers old clients answers new → length answers ≡ length clients
length-client_answers old new [] [] told = refl
length-client_answers old new [] (a ∷ answers) told = absurd told
length-client_answers old new (c ∷ clients) [] told = absurd told
length-client_answers old new (c ∷ clients) (a ∷ answers) told = ap suc (length-client_answers told.0 new clients answers told.3)

-- a client has the same number after a call
number_made : (old new : Client) (call : ZoneCall 8) (result : Result ZoneAnswer ClientError) → IsMade old call result new → new.number ≡ old.number
number_made old new call (Ok answer) made = ap (λ (c : Client). c.number) made.1
number_made old new call (Err error) made = ap (λ (c : Client). c.number) made.same

-- and after a line
number_kept : (old new : Client) (call : Option (ZoneCall 8)) (answer : Reply) → IsClientReply old call answer new → new.number ≡ old.number
number_kept old new None answer told = ap (λ (c : Client). c.number) told.1
number_kept old new (Some call) answer told = number_made old new call told.result told.made

-- so it may still make calls
pub still_allowed : (allows : ℕ → Type 0) (old new : Client) (call : Option (ZoneCall 8)) (answer : Reply) → IsClientReply old call answer new → allows old.number → allows new.number
still_allowed allows old new call answer told may = subst allows (sym (number_kept old new call answer told)) may
