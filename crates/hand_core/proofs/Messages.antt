-- The messages of one sender among those of all.
use Rattle.std.proofs.Common.{◌≡◌, ◌≢◌, ℕ, zero, suc, ◌+◌, ◌<◌, Bool, true, false, true≢false, List, [], ◌∷◌, ◌++◌, map, sym, refl, ap, ◌∙◌, ◌≤◌, append-nil, arith, cond}
use Rattle.std.specs.Prelude.{◌==◌, ◌||◌, take}
use Rattle.std.specs.List.{list_all, range_with_len}
use Rattle.std.proofs.lemmas.Bool.{eq-eqb, ne_eqb}
use Rattle.std.proofs.lemmas.List.Elements.{filter-append}
use Rattle.std.proofs.lemmas.List.{map-append}
use Rattle.std.proofs.Math.Bool.{or-false}
use Rattle.std.proofs.lemmas.List.Folds.{list_any-append}
use Rattle.std.proofs.lemmas.List.FromFn.{length-range_with_len, get_or-range_with_len}
use Rattle.std.proofs.lemmas.List.Sums.{AllPass-from_list_all}
use Rattle.hand_core.specs.declared.copy_queue.Message.{Message}
use Rattle.hand_core.specs.declared.copy_queue.Message.TheVariants.{Copies, Mark}
use Rattle.hand_core.specs.declared.copy_queue.Account.{Account}
use Rattle.hand_core.specs.Batches.{Batch, pages_of}
use Rattle.hand_core.specs.CopyQueue.{sender_of, messages_of, sent_by, all_sent, Comes}
use Rattle.hand_core.specs.CopyEnds.{is_mark_of, has_mark, copies_in_one, copies_in, copies_of}
use Rattle.hand_core.specs.CopyInvariants.{marks_of_four}

pub messages-append : (sender : ℕ) (xs ys : List Message) → messages_of sender (xs ++ ys) ≡ messages_of sender xs ++ messages_of sender ys
messages-append sender xs ys = filter-append (λ (m : Message). sender_of m == sender) xs ys

pub messages_own : (sender : ℕ) (x : Message) → sender_of x ≡ sender → messages_of sender (x ∷ []) ≡ x ∷ []
messages_own sender x own = ap (λ (b : Bool). cond b (x ∷ []) []) (eq-eqb (sender_of x) sender own)

pub messages_other : (sender : ℕ) (x : Message) → sender_of x ≢ sender → messages_of sender (x ∷ []) ≡ []
messages_other sender x other = ap (λ (b : Bool). cond b (x ∷ []) []) (ne_eqb (sender_of x) sender other)

-- where no message is the sender's, each message has another sender
pub nobody_sent : (sender : ℕ) (before : List Message) (x : Message) (rest : List Message) → messages_of sender (before ++ x ∷ rest) ≡ [] → sender_of x ≢ sender
nobody_sent sender before x rest none own = nothing none
  where
    nothing : messages_of sender (before ++ x ∷ rest) ≡ [] → ⊥
    nothing e = not_nil (messages_of sender before) (messages_of sender rest)
        (sym (messages-append sender before (x ∷ rest) ∙ ap (λ l. messages_of sender before ++ l) (messages-append sender (x ∷ []) rest ∙ ap (λ l. l ++ messages_of sender rest) (messages_own sender x own))) ∙ e)
      where
        not_nil : (xs ys : List Message) → xs ++ (x ∷ ys) ≡ [] → ⊥
        not_nil [] ys h = cc
        not_nil (z ∷ xs) ys h = cc

-- a sender that put no mark sent one batch more
pub all_sent-copies : (v : Account) (copies : Batch) → v.marked ≡ false → all_sent v ++ Copies v.sender copies ∷ [] ≡ all_sent (record v { sent = v.sent ++ copies ∷ [] })
all_sent-copies v copies fresh =
    let Marked : List Batch → Bool → List Message = λ sent b. map (Copies v.sender) sent ++ cond b (Mark v.sender ∷ []) [] in
    ap (λ l. l ++ Copies v.sender copies ∷ []) (ap (Marked v.sent) fresh ∙ append-nil (map (Copies v.sender) v.sent))
    ∙ sym (map-append (Copies v.sender) v.sent (copies ∷ []))
    ∙ sym (append-nil (map (Copies v.sender) (v.sent ++ copies ∷ [])))
    ∙ sym (ap (Marked (v.sent ++ copies ∷ [])) fresh)

-- a sender that put no mark put it
pub all_sent-mark : (v : Account) → v.marked ≡ false → all_sent v ++ Mark v.sender ∷ [] ≡ all_sent (record v { marked = true })
all_sent-mark v fresh =
    ap (λ (b : Bool). (map (Copies v.sender) v.sent ++ cond b (Mark v.sender ∷ []) []) ++ Mark v.sender ∷ []) fresh
    ∙ ap (λ l. l ++ Mark v.sender ∷ []) (append-nil (map (Copies v.sender) v.sent))

-- a batch is nobody's mark
marks-copies : (other : ℕ) (copies : Batch) (came : List Message) (sender : ℕ) → has_mark (came ++ Copies other copies ∷ []) sender ≡ has_mark came sender
marks-copies other copies came sender = list_any-append (is_mark_of sender) came (Copies other copies ∷ []) ∙ or-false (has_mark came sender)

-- the last mark that was waited for is received with no copies
pub last_alone : (v w : Account) (m : Message) (senders : List ℕ) → Comes v m w → list_all (has_mark v.came) senders ≡ false → list_all (has_mark w.came) senders ≡ true → copies_in_one m ≡ []
last_alone v w (Copies sender copies) senders comes going ended =
    absurd (true≢false (sym ended ∙ ap (λ (u : Account). list_all (has_mark u.came) senders) comes.0 ∙ (λ i. list_all (λ k. marks-copies sender copies v.came k i) senders) ∙ going))
last_alone v w (Mark sender) senders comes going ended = refl

-- the marks of the first senders of four
pub marks_of_first : (came : List Message) (senders : ℕ) → senders ≤ 4 → list_all (λ (m : Bool). m) (take senders (marks_of_four came)) ≡ list_all (has_mark came) (range_with_len 0 senders)
marks_of_first came zero few = refl
marks_of_first came (suc zero) few = refl
marks_of_first came (suc (suc zero)) few = refl
marks_of_first came (suc (suc (suc zero))) few = refl
marks_of_first came (suc (suc (suc (suc zero)))) few = refl
marks_of_first came (suc (suc (suc (suc (suc senders))))) few = absurd (omega arith)

-- a sender's mark is one of its messages
mark_kept : (sender : ℕ) (messages : List Message) → has_mark (messages_of sender messages) sender ≡ has_mark messages sender
mark_kept sender [] = refl
mark_kept sender (Copies other copies ∷ messages) = copied (other == sender) (messages_of sender messages) ∙ mark_kept sender messages
  where
    copied : (b : Bool) (rest : List Message) → has_mark (cond b (Copies other copies ∷ rest) rest) sender ≡ has_mark rest sender
    copied true rest = refl
    copied false rest = refl
mark_kept sender (Mark other ∷ messages) = marked (other == sender) refl ∙ ap (λ b. (other == sender) || b) (mark_kept sender messages)
  where
    marked : (b : Bool) → (other == sender) ≡ b → has_mark (cond (other == sender) (Mark other ∷ messages_of sender messages) (messages_of sender messages)) sender ≡ ((other == sender) || has_mark (messages_of sender messages) sender)
    marked true is = ap (λ c. has_mark (cond c (Mark other ∷ messages_of sender messages) (messages_of sender messages)) sender) is
    marked false is =
        ap (λ c. has_mark (cond c (Mark other ∷ messages_of sender messages) (messages_of sender messages)) sender) is
        ∙ ap (λ c. c || has_mark (messages_of sender messages) sender) (sym is)

-- where a sender's mark was received, so was all that it sent, and nothing of it is left
up_to_mark : (sender : ℕ) (sent : List Batch) (marked : Bool) (came queue : List Message)
    → came ++ queue ≡ sent_by sender sent marked → has_mark came sender ≡ true → (copies_in came ≡ pages_of sent) × (queue ≡ [])
up_to_mark sender [] true [] queue is has = absurd (cc)
up_to_mark sender [] false [] queue is has = absurd (cc)
up_to_mark sender [] false (x ∷ came) queue is has = absurd (cc)
up_to_mark sender [] true (x ∷ []) queue is has =
    let first : x ≡ Mark sender = cc in (ap (λ m. copies_in (m ∷ [])) first, (cc))
up_to_mark sender [] true (x ∷ y ∷ came) queue is has = absurd (cc)
up_to_mark sender (c ∷ sent) marked [] queue is has = absurd (cc)
up_to_mark sender (c ∷ sent) marked (x ∷ came) queue is has =
    let first : x ≡ Copies sender c = cc in
    let rest : came ++ queue ≡ sent_by sender sent marked = cc in
    let inner = up_to_mark sender sent marked came queue rest (ap (λ m. is_mark_of sender m || has_mark came sender) (sym first) ∙ has) in
    (ap (λ m. copies_in_one m ++ copies_in came) first ∙ ap (λ l. c.items ++ l) inner.0, inner.1)

up_to_own_mark : (sender : ℕ) (sent : List Batch) (marked : Bool) (came queue : List Message) → messages_of sender (came ++ queue) ≡ sent_by sender sent marked
    → has_mark came sender ≡ true → (copies_of sender came ≡ pages_of sent) × (messages_of sender queue ≡ [])
up_to_own_mark sender sent marked came queue is has =
    up_to_mark sender sent marked (messages_of sender came) (messages_of sender queue) (sym (messages-append sender came queue) ∙ is) (mark_kept sender came ∙ has)

-- once a sender's mark was received, so were all its copies
pub all_came : (v : Account) (came queue : List Message) → messages_of v.sender (came ++ queue) ≡ all_sent v → has_mark came v.sender ≡ true → copies_of v.sender came ≡ pages_of v.sent
all_came v came queue is has = (up_to_own_mark v.sender v.sent v.marked came queue is has).0

-- and the queue holds none of its messages
pub nothing_after_mark : (sender : ℕ) (sent : List Batch) (marked : Bool) (came queue : List Message)
    → messages_of sender (came ++ queue) ≡ sent_by sender sent marked → has_mark came sender ≡ true → messages_of sender queue ≡ []
nothing_after_mark sender sent marked came queue is has = (up_to_own_mark sender sent marked came queue is has).1

-- where all numbers of a run pass, each of them does
pub each_passes : (test : ℕ → Bool) (first count k : ℕ) → list_all test (range_with_len first count) ≡ true → k < count → test (first + k) ≡ true
each_passes test first count k all low =
    ap test (sym (get_or-range_with_len first count k 0 low))
    ∙ AllPass-from_list_all test (range_with_len first count) all k 0 (let e = length-range_with_len first count in omega arith)
