use Rattle.std.proofs.Common.{◌≡◌, ℕ, zero, suc, ◌+◌, ◌<◌, false, List, [], ◌∷◌, ◌++◌, length, Some, sym, ap, ◌∙◌, subst, arith}
use Rattle.std.specs.Prelude.{slice_get}
use Rattle.crossbeam_channel.specs.Ends.{sends_on}
use Rattle.hand_core.specs.declared.copy_queue.Account.{Account}
use Rattle.hand_core.specs.Batches.{pages_of}
use Rattle.hand_core.specs.Queue.{name_of}
use Rattle.hand_core.proofs.CopySteps.{makes}
use Rattle.hand_core.proofs.done_opening.new_senders.Goals as goal

pub another-theirs-requires-clause-rule : goal.another-theirs-requires-clause-rule
another-theirs-requires-clause-rule c =
    let knows = c.loop-number.invariant.knows in
    makes _ _ (ap (λ (v : Account). v.takes) knows) (ap (λ (v : Account). v.sends) knows)

-- one more element, which is the one that its index asks for
one_more : {X : Type 0} (xs : List X) (x : X) (n : ℕ) (value : ℕ → X) → length xs ≡ n → ((k : ℕ) → k < n → slice_get xs k ≡ Some (value k)) → x ≡ value n
    → (k : ℕ) → k < n + 1 → slice_get (xs ++ x ∷ []) k ≡ Some (value k)
one_more [] x zero value len old is zero low = ap Some is
one_more [] x zero value len old is (suc k) low = absurd (omega arith)
one_more [] x (suc n) value len old is k low = absurd (omega arith)
one_more (y ∷ xs) x zero value len old is k low = absurd (omega arith)
one_more (y ∷ xs) x (suc n) value len old is zero low = old 0 (omega arith)
one_more (y ∷ xs) x (suc n) value len old is (suc k) low = one_more xs x n (λ j. value (suc j)) (omega arith) (λ j before. old (suc j) (omega arith)) is k (omega arith)

pub loop-number-preserved : goal.loop-number-preserved
loop-number-preserved c =
    let old = c.loop-number.invariant in
    let count = old.count in
    let len_was = c.loop-number.all.ok in
    let room = old.room in
    let pushed = c.push_reserved.ensures in
    let len = pushed.len in
    let capacity = pushed.capacity in
    let channel = c.in_ok-to.ensures in
    let his = c.another-theirs.ensures.rule.1 in
    let sent = ap (λ (v : Account). pages_of v.sent) his in
    let marked = ap (λ (v : Account). v.marked) his in
    record {
      seat = c.another-theirs.ensures.channel.0;
      knows = c.another-theirs.ensures.rule.0 ∙ ap (λ (v : Account). record v { made = v.made + 1 }) old.knows;
      count = omega arith;
      room = omega arith;
      fresh = subst (λ l. (k : ℕ) → k < c.loop-number.number + 1 → slice_get l k ≡ Some (record { queue = name_of (sends_on c.args.to.now); most = c.args.most; number = k; sent = []; marked = false; closed = false })) (sym pushed.items)
          (one_more c.loop-number.all.items _ c.loop-number.number (λ k. record { queue = name_of (sends_on c.args.to.now); most = c.args.most; number = k; sent = []; marked = false; closed = false }) (omega arith) old.fresh
          (λ i. record { queue = name_of (channel i); most = c.args.most; number = c.loop-number.number; sent = sent i; marked = marked i; closed = false }));
    }
