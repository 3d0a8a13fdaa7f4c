-- Each step of the copies' queue keeps its rule.
use Rattle.std.proofs.Common.{◌≡◌, ◌≢◌, ℕ, ◌+◌, ◌<◌, ◌≤◌, Bool, true, false, true≢false, List, [], ◌∷◌, ◌++◌, length, set, sym, refl, ap, ◌∙◌, subst, ◌⊎◌, inl, inr, ⊎_elim, append_assoc, append-nil, arith, cond}
use Rattle.std.specs.Prelude.{◌==◌}
use Rattle.std.proofs.lemmas.Bool.{eq-eqb, ne_eqb, cases_lt}
use mathlib.Core.Option.{some, some-ne-none}
use lib.ListN.{get_elem?}
use Rattle.crossbeam_channel.specs.Fifo.{Pushes, Pops, Forks, Merges, Learns}
use Rattle.atomic_table.proofs.Lists.{at_set}
use Rattle.hand_core.specs.declared.copy_queue.Message.{Message}
use Rattle.hand_core.specs.declared.copy_queue.Message.TheVariants.{Copies, Mark}
use Rattle.hand_core.specs.declared.copy_queue.Account.{Account}
use Rattle.hand_core.specs.Batches.{Batch}
use Rattle.hand_core.specs.Queue.{Each}
use Rattle.hand_core.specs.CopyQueue.{taker_account, sender_account, sender_of, messages_of, sent_by, all_sent, InTurn, after_send, Comes, folded, nothing_known, Tells}
use Rattle.hand_core.specs.CopyEnds.{has_mark}
use Rattle.hand_core.proofs.EachEnd.{each_set, each_new}
use Rattle.hand_core.proofs.Messages.{messages-append, messages_own, messages_other, nobody_sent, nothing_after_mark, all_sent-copies, all_sent-mark}

-- what the rule says of a sender, and of the taker
abbrev Sent : (ℕ → ℕ) → ℕ → List Message → ℕ → Account → Type 0
Sent end_of made all number v = v.sends ≡ true → (end_of v.sender ≡ number) × (v.sender < made) × (messages_of v.sender all ≡ all_sent v)

abbrev Taken : ℕ → List Message → ℕ → ℕ → Account → Type 0
Taken taker came made number v = v.takes ≡ true → (number ≡ taker) × (v.came ≡ came) × (v.made ≡ made)

-- the rule holds of a queue that was just opened, whose one end is the taker
pub opens : InTurn [] (taker_account ∷ [])
opens = record {
  came = [];
  taker = 0;
  made = 0;
  end_of = λ sender. 0;
  sent = each_new (Sent (λ sender. 0) 0 []) [] taker_account (λ j u at. absurd (some-ne-none u (sym at))) (λ sends. absurd (true≢false (sym sends)));
  closed = λ sender. ([], false, refl);
  others = λ sender le. refl;
  taken = each_new (Taken 0 [] 0) [] taker_account (λ j u at. absurd (some-ne-none u (sym at))) (λ _. (refl, refl, refl));
}

same_or_other : (a b : ℕ) → (a ≡ b) ⊎ (a ≢ b)
same_or_other a b = ⊎_elim (λ (low : a < b). inr (λ e. omega arith)) (λ (le : b ≤ a). ⊎_elim (λ (low : b < a). inr (λ e. omega arith)) (λ (ge : a ≤ b). inl (omega arith)) (cases_lt b a)) (cases_lt a b)

-- a message of the sender goes in at the back
message_in : (room number : ℕ) (v w : Account) (x : Message) → v.sends ≡ true → sender_of x ≡ v.sender
    → (w.sends ≡ v.sends) × (w.sender ≡ v.sender) × (w.takes ≡ v.takes) × (w.made ≡ v.made) × (w.came ≡ v.came)
    → all_sent v ++ x ∷ [] ≡ all_sent w → Pushes InTurn room number v x (λ u. u ≡ w)
message_in room number v w x sends own same more queue ends short r at =
    let this = r.sent number v at sends in
    let all : List Message = r.came ++ queue in
    let now : r.came ++ (queue ++ x ∷ []) ≡ all ++ x ∷ [] = sym (append_assoc r.came queue (x ∷ [])) in
    let split : (sender : ℕ) → messages_of sender (r.came ++ (queue ++ x ∷ [])) ≡ messages_of sender all ++ messages_of sender (x ∷ []) = λ sender. ap (messages_of sender) now ∙ messages-append sender all (x ∷ []) in
    let still : (sender : ℕ) → sender_of x ≢ sender → messages_of sender (r.came ++ (queue ++ x ∷ [])) ≡ messages_of sender all =
    λ sender other. split sender ∙ ap (λ l. messages_of sender all ++ l) (messages_other sender x other) ∙ append-nil (messages_of sender all) in
    let mine : messages_of v.sender (r.came ++ (queue ++ x ∷ [])) ≡ all_sent w =
    split v.sender ∙ ap (λ l. messages_of v.sender all ++ l) (messages_own v.sender x own) ∙ ap (λ l. l ++ x ∷ []) this.2 ∙ more in (
      w,
      record {
        came = r.came;
        taker = r.taker;
        made = r.made;
        end_of = r.end_of;
        sent = each_set (Sent r.end_of r.made (r.came ++ (queue ++ x ∷ []))) ends number w
            (λ _. (ap r.end_of same.1 ∙ this.0, subst (λ k. k < r.made) (sym same.1) this.1, subst (λ k. messages_of k (r.came ++ (queue ++ x ∷ [])) ≡ all_sent w) (sym same.1) mine))
            (λ j u apart e s. let his = r.sent j u e s in
            let no : sender_of x ≢ u.sender = λ is. apart (sym his.0 ∙ ap r.end_of (sym is ∙ own) ∙ this.0) in
            (his.0, his.1, still u.sender no ∙ his.2));
        closed = λ sender. ⊎_elim
            (λ (is : v.sender ≡ sender). (w.sent, w.marked, subst (λ k. messages_of k (r.came ++ (queue ++ x ∷ [])) ≡ sent_by k w.sent w.marked) is (subst (λ k. messages_of v.sender (r.came ++ (queue ++ x ∷ [])) ≡ sent_by k w.sent w.marked) same.1 mine)))
            (λ (other : v.sender ≢ sender). let his = r.closed sender in (his.0, his.1, still sender (λ is. other (sym own ∙ is)) ∙ his.2))
            (same_or_other v.sender sender);
        others = λ sender le. let no : sender_of x ≢ sender = λ is. let low = this.1 in absurd (omega arith) in still sender no ∙ r.others sender le;
        taken = each_set (Taken r.taker r.came r.made) ends number w
            (λ t. let his = r.taken number v at (sym same.2 ∙ t) in (his.0, same.4 ∙ his.1, same.3 ∙ his.2))
            (λ j u apart e t. r.taken j u e t);
      },
      refl,
    )

-- a batch of copies goes in at the back
pub copies_go_in : (room number : ℕ) (v : Account) (sender : ℕ) (copies : Batch) → v.sends ≡ true → v.sender ≡ sender → v.marked ≡ false → Pushes InTurn room number v (Copies sender copies) (λ w. w ≡ after_send v (Copies sender copies))
copies_go_in room number v sender copies sends own fresh =
    message_in room number v (after_send v (Copies sender copies)) (Copies sender copies) sends (sym own) (refl, refl, refl, refl, refl)
    (ap (λ k. all_sent v ++ Copies k copies ∷ []) (sym own) ∙ all_sent-copies v copies fresh)

-- a sender's mark goes in at the back
pub mark_in : (room number : ℕ) (v : Account) (sender : ℕ) → v.sends ≡ true → v.sender ≡ sender → v.marked ≡ false → Pushes InTurn room number v (Mark sender) (λ w. w ≡ after_send v (Mark sender))
mark_in room number v sender sends own fresh =
    message_in room number v (after_send v (Mark sender)) (Mark sender) sends (sym own) (refl, refl, refl, refl, refl)
    (ap (λ k. all_sent v ++ Mark k ∷ []) (sym own) ∙ all_sent-mark v fresh)

-- the sender of a message in the queue was made
was_made : (queue : List Message) (ends : List Account) (r : InTurn queue ends) (x : Message) (rest : List Message) → queue ≡ x ∷ rest → sender_of x < r.made
was_made queue ends r x rest is =
    ⊎_elim (λ (low : sender_of x < r.made). low)
    (λ (high : r.made ≤ sender_of x). absurd (nobody_sent (sender_of x) r.came x rest (subst (λ l. messages_of (sender_of x) (r.came ++ l) ≡ []) is (r.others (sender_of x) high)) refl))
    (cases_lt (sender_of x) r.made)

-- a batch or a mark comes off the front
pub off : (number : ℕ) (v : Account) → v.takes ≡ true → Pops InTurn number v (Comes v)
off number v takes x queue ends r at =
    let w : Account = record v { came = v.came ++ x ∷ [] } in
    let this = r.taken number v at takes in
    let same : r.came ++ (x ∷ queue) ≡ (r.came ++ x ∷ []) ++ queue = sym (append_assoc r.came (x ∷ []) queue) in
    let known : sender_of x < r.made = was_made (x ∷ queue) ends r x queue refl in (
      w,
      record {
        came = r.came ++ x ∷ [];
        taker = r.taker;
        made = r.made;
        end_of = r.end_of;
        sent = each_set (Sent r.end_of r.made ((r.came ++ x ∷ []) ++ queue)) ends number w
            (subst (λ l. Sent r.end_of r.made l number v) same (r.sent number v at))
            (λ j u apart e. subst (λ l. Sent r.end_of r.made l j u) same (r.sent j u e));
        closed = λ sender. (let his = r.closed sender in (his.0, his.1, subst (λ l. messages_of sender l ≡ sent_by sender his.0 his.1) same his.2));
        others = λ sender le. subst (λ l. messages_of sender l ≡ []) same (r.others sender le);
        taken = each_set (Taken r.taker (r.came ++ x ∷ []) r.made) ends number w
            (λ t. (this.0, ap (λ l. l ++ x ∷ []) this.1, this.2))
            (λ j u apart e t. absurd (apart ((r.taken j u e t).0 ∙ sym this.0)));
      },
      (refl, subst (λ n. sender_of x < n) (sym this.2) known),
    )

-- the taker makes one sender more
pub makes : (number : ℕ) (v : Account) → v.takes ≡ true → v.sends ≡ false → Forks InTurn number v (record v { made = v.made + 1 }) (sender_account v.made)
makes number v takes plain queue ends r at =
    let w : Account = record v { made = v.made + 1 } in
    let new : Account = sender_account v.made in
    let ws : List Account = set ends number w in
    let this = r.taken number v at takes in
    let all : List Message = r.came ++ queue in
    let end_of : ℕ → ℕ = λ k. cond (k == r.made) (length ws) (r.end_of k) in
    let old : Each ws (Sent r.end_of r.made all) = each_set (Sent r.end_of r.made all) ends number w (λ s. absurd (true≢false (sym s ∙ plain))) (λ j u apart e. r.sent j u e) in
    let kept : (j : ℕ) (u : Account) → Sent r.end_of r.made all j u → Sent end_of (r.made + 1) all j u = λ j u h s.
    let his = h s in
    let low = his.1 in
    let other : u.sender ≢ r.made = λ e. absurd (omega arith) in
    (ap (λ (b : Bool). cond b (length ws) (r.end_of u.sender)) (ne_eqb u.sender r.made other) ∙ his.0, omega arith, his.2) in
    record {
      came = r.came;
      taker = r.taker;
      made = r.made + 1;
      end_of = end_of;
      sent = each_new (Sent end_of (r.made + 1) all) ws new (λ j u e. kept j u (old j u e))
          (λ s. (ap (λ (b : Bool). cond b (length ws) (r.end_of v.made)) (eq-eqb v.made r.made this.2), omega arith, subst (λ k. messages_of k all ≡ []) (sym this.2) (r.others r.made (omega arith))));
      closed = r.closed;
      others = λ sender le. r.others sender (omega arith);
      taken = each_new (Taken r.taker r.came (r.made + 1)) ws new
          (each_set (Taken r.taker r.came (r.made + 1)) ends number w
          (λ t. (this.0, this.1, ap (λ k. k + 1) this.2))
          (λ i y apart f t. absurd (apart ((r.taken i y f t).0 ∙ sym this.0))))
          (λ t. absurd (true≢false (sym t)));
    }

-- the taker gets the knowledge of a sender
pub folds : (number : ℕ) (v : Account) (other : ℕ) (u : Account) → v.takes ≡ true → u.sends ≡ true → Merges InTurn number v other u (folded v u) nothing_known
folds number v other u takes sends queue ends r at apart at_other =
    let both : Account = folded v u in
    let ws : List Account = set ends number both in
    let all : List Message = r.came ++ queue in
    let was : get_elem? ends other ≡ some u = ⊎_elim (λ x. absurd (apart x.0)) (λ x. x.1) (at_set ends number other both u at_other) in
    let this = r.taken number v at takes in
    let his = r.sent other u was sends in
    let end_of : ℕ → ℕ = λ k. cond (k == u.sender) number (r.end_of k) in
    let still : (j : ℕ) (y : Account) → j ≢ other → Sent r.end_of r.made all j y → Sent end_of r.made all j y = λ j y away h s.
    let its = h s in
    let differs : y.sender ≢ u.sender = λ e. away (sym its.0 ∙ ap r.end_of e ∙ his.0) in
    (ap (λ (b : Bool). cond b number (r.end_of y.sender)) (ne_eqb y.sender u.sender differs) ∙ its.0, its.1, its.2) in
    record {
      came = r.came;
      taker = r.taker;
      made = r.made;
      end_of = end_of;
      sent = each_set (Sent end_of r.made all) ws other nothing_known (λ none. absurd (true≢false (sym none)))
          (λ j y away e. each_set (λ i z. i ≢ other → Sent end_of r.made all i z) ends number both
          (λ _ _. (ap (λ (b : Bool). cond b number (r.end_of u.sender)) (eq-eqb u.sender u.sender refl), his.1, his.2))
          (λ i z apart_i e_i away_i. still i z away_i (r.sent i z e_i)) j y e away);
      closed = r.closed;
      others = r.others;
      taken = each_set (Taken r.taker r.came r.made) ws other nothing_known (λ none. absurd (true≢false (sym none)))
          (λ j y away e. each_set (Taken r.taker r.came r.made) ends number both (λ _. this) (λ i z apart_i e_i. r.taken i z e_i) j y e);
    }

-- an end that knows what was received and what a sender sent can compare them
pub tells : (number : ℕ) (v : Account) → v.takes ≡ true → v.sends ≡ true → Learns InTurn number v (Tells v)
tells number v takes sends queue ends r at =
    let this = r.taken number v at takes in
    let its = r.sent number v at sends in
    (subst (λ n. v.sender < n) (sym this.2) its.1, subst (λ l. messages_of v.sender (l ++ queue) ≡ all_sent v) (sym this.1) its.2)

-- once every mark was received, the queue holds nothing
pub all_received : (queue : List Message) (ends : List Account) (r : InTurn queue ends) → ((k : ℕ) → k < r.made → has_mark r.came k ≡ true) → queue ≡ []
all_received [] ends r marked = refl
all_received (x ∷ queue) ends r marked =
    let k : ℕ = sender_of x in
    let his = r.closed k in
    let none : messages_of k (x ∷ queue) ≡ [] =
    nothing_after_mark k his.0 his.1 r.came (x ∷ queue) his.2 (marked k (was_made (x ∷ queue) ends r x queue refl)) in absurd (nobody_sent k [] x queue none refl)
