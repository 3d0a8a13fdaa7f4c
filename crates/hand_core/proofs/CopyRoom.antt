-- No more copies are in a queue than its batches may have.
use Rattle.std.proofs.Common.{◌≡◌, ℕ, ◌*◌, ◌<◌, ◌≤◌, Bool, true, false, List, [], ◌∷◌, ◌++◌, length, map, All, sym, refl, ◌∙◌, subst, ⊎_elim, arith, cond}
use Rattle.std.proofs.lemmas.Bool.{cases_lt}
use Rattle.std.proofs.lemmas.List.Elements.{All-nil, All-cons, All-head, All-append, All-map, All-weaker, All-contains}
use Rattle.hand_core.specs.declared.copy_queue.Message.{Message}
use Rattle.hand_core.specs.declared.copy_queue.Message.TheVariants.{Copies, Mark}
use Rattle.hand_core.specs.CopyEnds.{DoneSender, DoneTaker, copies_in_one, copies_in}
use Rattle.hand_core.specs.CopyQueue.{sender_of, messages_of, sent_by}
use Rattle.hand_core.specs.CopyRoom.{IsAmong, HoldsWith}
use Rattle.hand_core.specs.Batches.{Batch}
use Rattle.hand_core.proofs.Messages.{messages-append, messages_own}
use Rattle.hand_core.proofs.Hands.{few_in_all}
use Rattle.hand_core.proofs.Serials.{all_front, all_back}

abbrev Small : ℕ → Message → Type 0
Small most m = length (copies_in_one m) ≤ most

-- small batches are small messages, and a mark has no copy
sent_small : (most sender : ℕ) (batches : List Batch) (marked : Bool) → All (λ (h : Batch). length h.items ≤ most) batches → All (Small most) (sent_by sender batches marked)
sent_small most sender batches marked every =
    All-append (Small most) (map (Copies sender) batches) (cond marked (Mark sender ∷ []) []) (All-map (Small most) (Copies sender) batches every) (marks marked)
  where
    marks : (b : Bool) → All (Small most) (cond b (Mark sender ∷ []) [])
    marks true = All-cons (Small most) (Mark sender) [] (omega arith) (All-nil (Small most))
    marks false = All-nil (Small most)

-- where the messages of each sender are small, all are
all_small : (most : ℕ) (messages : List Message) → ((sender : ℕ) → All (Small most) (messages_of sender messages)) → All (Small most) messages
all_small most [] each = All-nil (Small most)
all_small most (x ∷ messages) each =
    let parts : (k : ℕ) → All (Small most) (messages_of k (x ∷ []) ++ messages_of k messages) = λ k. subst (All (Small most)) (messages-append k (x ∷ []) messages) (each k) in
    let own : ℕ = sender_of x in
    All-cons (Small most) x messages
    (All-head (Small most) x [] (subst (All (Small most)) (messages_own own x refl) (all_front (Small most) (messages_of own (x ∷ [])) (messages_of own messages) (parts own))))
    (all_small most messages (λ k. all_back (Small most) (messages_of k (x ∷ [])) (messages_of k messages) (parts k)))

-- no message of a sender is larger than a batch
of_sender : (queue : List Message) (t : DoneTaker) (senders : List DoneSender) (most : ℕ) → HoldsWith queue t senders → All (λ (s : DoneSender). s.most ≤ most) senders
    → (k : ℕ) → All (Small most) (messages_of k queue)
of_sender queue t senders most h each k =
    let rule = h.holds.rule in
    let made : t.senders ≡ rule.made = sym h.holds.made ∙ (rule.taken h.holds.number h.holds.taker h.holds.at h.holds.takes).2 in
    let sent : All (Small most) (messages_of k (rule.came ++ queue)) = ⊎_elim
    (λ (low : k < t.senders).
    let his = h.each k low in
    let s : DoneSender = his.0 in
    let end = All-contains (IsAmong h.holds.ends) senders s h.among his.1 in
    let le : s.most ≤ most = All-contains (λ (u : DoneSender). u.most ≤ most) senders s each his.1 in
    let is = (rule.sent end.number end.knows end.at end.sends).2 in
    let small = All-weaker (λ (g : Batch). length g.items ≤ s.most) (λ (g : Batch). length g.items ≤ most) (λ g less. omega arith) end.knows.sent end.small in
    subst (λ n. All (Small most) (messages_of n (rule.came ++ queue))) (end.sender ∙ his.2) (subst (All (Small most)) (sym is) (sent_small most end.knows.sender end.knows.sent end.knows.marked small)))
    (λ (high : t.senders ≤ k). subst (All (Small most)) (sym (rule.others k (omega arith))) (All-nil (Small most)))
    (cases_lt k t.senders) in
    all_back (Small most) (messages_of k rule.came) (messages_of k queue) (subst (All (Small most)) (messages-append k rule.came queue) sent)

pub keeps_to_room : (queue : List Message) (t : DoneTaker) (senders : List DoneSender) (most : ℕ) → HoldsWith queue t senders → All (λ (s : DoneSender). s.most ≤ most) senders
    → length (copies_in queue) ≤ t.room * most
keeps_to_room queue t senders most h each = few_in_all copies_in_one t.room most queue h.room (all_small most queue (of_sender queue t senders most h each))
