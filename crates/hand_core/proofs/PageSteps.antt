-- Each step of a hand-over keeps its rule.
use Rattle.std.proofs.Common.{◌≡◌, ◌≢◌, ℕ, zero, suc, ◌+◌, ◌-◌, ◌<◌, true, false, true≢false, List, [], ◌∷◌, ◌++◌, length, map, set, All, sym, refl, ap, ◌∙◌, subst, ⊎_elim, append_assoc, append-nil, arith}
use Rattle.std.specs.Prelude.{◌≤◌, max, replicate}
use Rattle.std.proofs.Math.Nat.{le-max_left, le-max_right}
use Rattle.std.proofs.lemmas.List.Elements.{All-nil, All-push, All-tail}
use Rattle.std.proofs.lemmas.Grind.{flat_map-append}
use Rattle.std.proofs.lemmas.List.{map-append, replicate_more}
use Rattle.std.specs.List.Sorted.{IsPermutation}
use Rattle.std.proofs.lemmas.List.Sorted.{IsPermutation-refl, IsPermutation-sym, IsPermutation-trans, IsPermutation-append_left, All-permutation}
use mathlib.Core.Option.{some, some-ne-none}
use lib.ListN.{get_elem?}
use Rattle.crossbeam_channel.specs.Fifo.{Pushes, Pops, Forks, Merges, Learns}
use Rattle.atomic_table.proofs.Lists.{at_set}
use Rattle.frame_core.specs.Page.{IsolatedPage}
use Rattle.hand_core.specs.declared.page_queue.Note.{Note}
use Rattle.hand_core.specs.declared.page_queue.Note.TheVariants.{Pages, Mark}
use Rattle.hand_core.specs.declared.page_queue.Known.{Known}
use Rattle.frame_core.specs.Serials.{HasSerialsFrom, IsRising}
use Rattle.hand_core.specs.PageQueue.{giver_knows, taker_knows, all_off, all_ended, InOrder, after_put, after_take, Takes, joined, nothing_known, Settles}
use Rattle.hand_core.specs.Batches.{Batch, pages_of}
use Rattle.hand_core.specs.Queue.{Each, total}
use Rattle.hand_core.proofs.EachEnd.{each_set, each_new}
use Rattle.hand_core.proofs.Serials.{serials-append, serials_front, serials_after, serials_below, rising-append, rising-nil}
use Rattle.hand_core.proofs.Totals.{total_set, total_same, total_new, total_alone, off_same, off_new, off_longer, off_joined, off_alone, all_of_end}

abbrev pub queue_of : List Batch → ℕ → List Note
queue_of waiting marks = map Pages waiting ++ replicate marks Mark

queued_pages : (queue : List Note) (waiting : List Batch) (marks : ℕ) (h : Batch) → queue ≡ queue_of waiting marks → marks ≡ 0 → queue ++ Pages h ∷ [] ≡ queue_of (waiting ++ h ∷ []) 0
queued_pages queue waiting marks h is none =
    ap (λ l. l ++ Pages h ∷ []) (is ∙ ap (λ m. map Pages waiting ++ replicate m Mark) none ∙ append-nil (map Pages waiting))
    ∙ sym (map-append Pages waiting (h ∷ []))
    ∙ sym (append-nil (map Pages (waiting ++ h ∷ [])))

queued_mark : (queue : List Note) (waiting : List Batch) (marks : ℕ) → queue ≡ queue_of waiting marks → queue ++ Mark ∷ [] ≡ queue_of waiting (marks + 1)
queued_mark queue waiting marks is =
    ap (λ l. l ++ Mark ∷ []) is
    ∙ append_assoc (map Pages waiting) (replicate marks Mark) (Mark ∷ [])
    ∙ ap (λ l. map Pages waiting ++ l) (replicate_more marks Mark)

-- the pages of some batches and one more
one_more : (waiting : List Batch) (h : Batch) → pages_of (waiting ++ h ∷ []) ≡ pages_of waiting ++ h.items
one_more waiting h =
    flat_map-append (λ (g : Batch). g.items) waiting (h ∷ [])
    ∙ ap (λ l. pages_of waiting ++ l) (append-nil h.items)

-- a batch at the front of the queue is the first one that waits
front_pages : (waiting : List Batch) (marks : ℕ) (h : Batch) (queue : List Note) → Pages h ∷ queue ≡ queue_of waiting marks
    → (rest : List Batch) × (waiting ≡ h ∷ rest) × (queue ≡ queue_of rest marks)
front_pages [] zero h queue is = absurd (cc)
front_pages [] (suc marks) h queue is = absurd (cc)
front_pages (g ∷ waiting) marks h queue is = (waiting, (cc), (cc))

-- after an end mark there are only end marks
front_mark : (waiting : List Batch) (marks : ℕ) (queue : List Note) → Mark ∷ queue ≡ queue_of waiting marks
    → (rest : ℕ) × (waiting ≡ []) × (marks ≡ suc rest) × (queue ≡ queue_of [] rest)
front_mark [] zero queue is = absurd (cc)
front_mark [] (suc marks) queue is = (marks, refl, refl, (cc))
front_mark (g ∷ waiting) marks queue is = absurd (cc)

-- what the rule says of one end
record Obeys (giver : ℕ) (given : List IsolatedPage) (waiting : List Batch) (marks number : ℕ) (v : Known) : Type 0 where
  rises : v.gives ≡ false → IsRising v.off
  gave : v.gives ≡ true → (number ≡ giver) × (v.given ≡ given) × (v.marks ≡ marks) × All (λ (h : Batch). length h.items ≤ v.largest) waiting
  spent : v.shares ≡ 0 → (v.off ≡ []) × (v.ended ≡ 0)

-- a hand-over has one giver, so nothing of what was given is asked of another end
another : {giver number other marks marks' : ℕ} {given given' : List IsolatedPage} {waiting waiting' : List Batch} {u : Known}
    → number ≡ giver → other ≢ number → Obeys giver given waiting marks other u → Obeys giver given' waiting' marks' other u
another this apart o = record { rises = o.rises; gave = λ gives. absurd (apart ((o.gave gives).0 ∙ sym this)); spent = o.spent }

-- the rule still holds of an end where the pages given and the marks are the same, and no other batches wait
still : {giver number marks marks' : ℕ} {given given' : List IsolatedPage} {waiting waiting' : List Batch} {u : Known}
    → given ≡ given' → marks ≡ marks' → ((most : ℕ) → All (λ (h : Batch). length h.items ≤ most) waiting → All (λ (h : Batch). length h.items ≤ most) waiting')
    → Obeys giver given waiting marks number u → Obeys giver given' waiting' marks' number u
still {u = u} pages count fits o = record {
  rises = o.rises;
  gave = λ gives. let g = o.gave gives in (g.0, g.1 ∙ pages, g.2 ∙ count, fits u.largest g.3);
  spent = o.spent;
}

-- a taker gave nothing
taker_obeys : {giver number marks : ℕ} {given : List IsolatedPage} {waiting : List Batch} (w : Known) → w.gives ≡ false → 0 < w.shares → IsRising w.off → Obeys giver given waiting marks number w
taker_obeys w plain share rises = record { rises = λ _. rises; gave = λ gives. absurd (true≢false (sym gives ∙ plain)); spent = λ none. absurd (omega arith) }

obeyed : (queue : List Note) (ends : List Known) (r : InOrder queue ends) → Each ends (Obeys r.giver (r.off ++ pages_of r.waiting) r.waiting (all_ended ends + r.marks))
obeyed queue ends r number v at = record {
  rises = r.rising number v at;
  gave = λ gives. let g = r.given number v at gives in (g.0, g.1, g.2, r.fits number v at gives);
  spent = r.spent number v at;
}

ordered : {queue : List Note} {ends : List Known} (giver base : ℕ) (off : List IsolatedPage) (waiting : List Batch) (marks : ℕ) → HasSerialsFrom base (off ++ pages_of waiting)
    → queue ≡ queue_of waiting marks → IsPermutation (all_off ends) off → (0 < all_ended ends → waiting ≡ []) → total (λ v. v.shares) ends ≡ 1024
    → Each ends (Obeys giver (off ++ pages_of waiting) waiting (all_ended ends + marks)) → InOrder queue ends
ordered giver base off waiting marks serials queued together done shares each = record {
  giver = giver;
  base = base;
  off = off;
  waiting = waiting;
  marks = marks;
  serials = serials;
  queued = queued;
  together = together;
  rising = λ j u e. (each j u e).rises;
  done = done;
  given = λ j u e gives. let g = (each j u e).gave gives in (g.0, g.1, g.2);
  fits = λ j u e gives. ((each j u e).gave gives).3;
  shares = shares;
  spent = λ j u e. (each j u e).spent;
}

-- the largest batch is the largest of all with one more
larger : (largest : ℕ) (h : Batch) (waiting : List Batch) → All (λ (g : Batch). length g.items ≤ largest) waiting
    → All (λ (g : Batch). length g.items ≤ max largest (length h.items)) (waiting ++ h ∷ [])
larger largest h waiting every =
    let Small : Batch → Type 0 = λ g. length g.items ≤ max largest (length h.items) in
    let left = le-max_left largest (length h.items) in
    All-push Small waiting h (λ k d low. let this = every k d low in omega arith) (le-max_right largest (length h.items))

-- the rule holds of a queue that was just opened, whose one end is the giver
pub opens : InOrder [] (giver_knows ∷ [])
opens = ordered 0 0 [] [] 0 refl refl (IsPermutation-refl []) (λ some. refl) refl (each_new (Obeys 0 [] [] 0) [] giver_knows (λ j u at. absurd (some-ne-none u (sym at)))
    (record { rises = λ plain. rising-nil; gave = λ _. (refl, refl, refl, All-nil (λ (h : Batch). length h.items ≤ 0)); spent = λ _. (refl, refl) }))

-- what one end's step leaves, where no page comes off for it and it keeps its share
module _ {queue : List Note} {ends : List Known} (r : InOrder queue ends) (number : ℕ) (v w : Known) (at : get_elem? ends number ≡ some v) (off_is : w.off ≡ v.off) where
  off_stays : IsPermutation (all_off (set ends number w)) r.off
  off_stays = subst (λ l. IsPermutation l r.off) (sym (off_same ends number v w at off_is)) r.together

  shares_stay : w.shares ≡ v.shares → total (λ u. u.shares) (set ends number w) ≡ 1024
  shares_stay same = total_same (λ u. u.shares) ends number v w at same ∙ r.shares

-- a batch goes in at the back
pub pages_in : (room number : ℕ) (v : Known) (h : Batch) (base : ℕ) → v.gives ≡ true → v.marks ≡ 0 → HasSerialsFrom base v.given → HasSerialsFrom (base + length v.given) h.items
    → Pushes InOrder room number v (Pages h) (λ w. w ≡ after_put v (Pages h))
pages_in room number v h base gives unmarked serials next queue ends short r at =
    let w = after_put v (Pages h) in
    let was = obeyed queue ends r number v at in
    let this = was.gave gives in
    let count = this.2 in
    let none : r.marks ≡ 0 = omega arith in
    let waiting : List Batch = r.waiting ++ h ∷ [] in
    let given : v.given ++ h.items ≡ r.off ++ pages_of waiting =
    ap (λ l. l ++ h.items) this.1 ∙ append_assoc r.off (pages_of r.waiting) h.items ∙ ap (λ l. r.off ++ l) (sym (one_more r.waiting h)) in
    let ended : all_ended (set ends number w) ≡ all_ended ends = total_same (λ u. u.ended) ends number v w at refl in
    let marks : v.marks ≡ all_ended (set ends number w) + 0 = omega arith in (
      w,
      ordered r.giver base r.off waiting 0 (subst (HasSerialsFrom base) given (serials-append base v.given h.items serials next)) (queued_pages queue r.waiting r.marks h r.queued none)
          (off_stays r number v w at refl) (λ some. absurd (omega arith)) (shares_stay r number v w at refl refl)
          (each_set (Obeys r.giver (r.off ++ pages_of waiting) waiting (all_ended (set ends number w) + 0)) ends number w
          (record { rises = was.rises; gave = λ _. (this.0, given, marks, larger v.largest h r.waiting this.3); spent = was.spent })
          (λ j u other e. another this.0 other (obeyed queue ends r j u e))),
      refl,
    )

-- an end mark goes in at the back
pub mark_in : (room number : ℕ) (v : Known) → v.gives ≡ true → Pushes InOrder room number v Mark (λ w. w ≡ after_put v Mark)
mark_in room number v gives queue ends short r at =
    let w = after_put v Mark in
    let was = obeyed queue ends r number v at in
    let this = was.gave gives in
    let count = this.2 in
    let ended : all_ended (set ends number w) ≡ all_ended ends = total_same (λ u. u.ended) ends number v w at refl in
    let marks : v.marks + 1 ≡ all_ended (set ends number w) + (r.marks + 1) = omega arith in (
      w,
      ordered r.giver r.base r.off r.waiting (r.marks + 1) r.serials (queued_mark queue r.waiting r.marks r.queued)
          (off_stays r number v w at refl) (λ some. r.done (omega arith)) (shares_stay r number v w at refl refl)
          (each_set (Obeys r.giver (r.off ++ pages_of r.waiting) r.waiting (all_ended (set ends number w) + (r.marks + 1))) ends number w
          (record { rises = was.rises; gave = λ _. (this.0, this.1, marks, this.3); spent = was.spent })
          (λ j u other e. another this.0 other (obeyed queue ends r j u e))),
      refl,
    )

-- a batch is received from the front
pages_off : (number : ℕ) (v : Known) (h : Batch) (queue : List Note) (ends : List Known) → v.gives ≡ false → 0 < v.shares → InOrder (Pages h ∷ queue) ends → get_elem? ends number ≡ some v
    → InOrder queue (set ends number (after_take v (Pages h))) × IsRising (v.off ++ h.items)
pages_off number v h queue ends plain share r at =
    let w = after_take v (Pages h) in
    let front = front_pages r.waiting r.marks h queue r.queued in
    let rest : List Batch = front.0 in
    let first : r.waiting ≡ h ∷ rest = front.1 in
    let moved : r.off ++ pages_of r.waiting ≡ (r.off ++ h.items) ++ pages_of rest =
    ap (λ l. r.off ++ pages_of l) first ∙ sym (append_assoc r.off h.items (pages_of rest)) in
    let ended : all_ended (set ends number w) ≡ all_ended ends = total_same (λ u. u.ended) ends number v w at refl in
    let serials : HasSerialsFrom r.base ((r.off ++ h.items) ++ pages_of rest) = subst (HasSerialsFrom r.base) moved r.serials in
    let next : HasSerialsFrom (r.base + length r.off) h.items =
    serials_after r.base r.off h.items (serials_front r.base (r.off ++ h.items) (pages_of rest) serials) in
    let below : All (λ (q : IsolatedPage). q.serial < r.base + length r.off) v.off =
    all_of_end ends number v at (λ q. q.serial < r.base + length r.off)
    (All-permutation (λ (q : IsolatedPage). q.serial < r.base + length r.off) r.off (all_off ends) (IsPermutation-sym (all_off ends) r.off r.together)
    (serials_below r.base r.off (serials_front r.base r.off (pages_of r.waiting) r.serials))) in
    let rises : IsRising (v.off ++ h.items) = rising-append v.off (r.base + length r.off) h.items (r.rising number v at plain) below next in (
      ordered r.giver r.base (r.off ++ h.items) rest r.marks serials front.2
          (IsPermutation-trans (all_off (set ends number w)) (all_off ends ++ h.items) (r.off ++ h.items)
          (off_longer ends number v at w h.items refl)
          (IsPermutation-append_left h.items (all_off ends) r.off r.together))
          (λ some. absurd (nothing (sym first ∙ r.done (omega arith))))
          (total_same (λ u. u.shares) ends number v w at refl ∙ r.shares)
          (each_set (Obeys r.giver ((r.off ++ h.items) ++ pages_of rest) rest (all_ended (set ends number w) + r.marks)) ends number w (taker_obeys w plain share rises)
          (λ j u other e. still moved (ap (λ n. n + r.marks) (sym ended))
          (λ most every. All-tail (λ (g : Batch). length g.items ≤ most) h rest (subst (All (λ (g : Batch). length g.items ≤ most)) first every)) (obeyed _ ends r j u e))),
      rises,
    )
  where
    nothing : {rest : List Batch} → h ∷ rest ≡ [] → ⊥
    nothing e = cc

-- an end mark is received from the front
mark_off : (number : ℕ) (v : Known) (queue : List Note) (ends : List Known) → v.gives ≡ false → 0 < v.shares → InOrder (Mark ∷ queue) ends → get_elem? ends number ≡ some v
    → InOrder queue (set ends number (after_take v Mark)) × IsRising v.off
mark_off number v queue ends plain share r at =
    let w = after_take v Mark in
    let front = front_mark r.waiting r.marks queue r.queued in
    let left : ℕ = front.0 in
    let fewer : r.marks ≡ suc left = front.2 in
    let one : all_ended (set ends number w) + v.ended ≡ all_ended ends + (v.ended + 1) = total_set (λ u. u.ended) ends number v w at in
    let marks : all_ended ends + r.marks ≡ all_ended (set ends number w) + left = omega arith in
    let pages : r.off ++ pages_of r.waiting ≡ r.off ++ [] = ap (λ l. r.off ++ pages_of l) front.1 in
    let rises = r.rising number v at plain in (
      ordered r.giver r.base r.off [] left (subst (HasSerialsFrom r.base) pages r.serials) front.3
          (off_stays r number v w at refl) (λ some. refl) (shares_stay r number v w at refl refl)
          (each_set (Obeys r.giver (r.off ++ []) [] (all_ended (set ends number w) + left)) ends number w (taker_obeys w plain share rises)
          (λ j u other e. still pages marks (λ most every. All-nil (λ (g : Batch). length g.items ≤ most)) (obeyed _ ends r j u e))),
      rises,
    )

-- a taker takes the message at the front
pub off : (number : ℕ) (v : Known) → v.gives ≡ false → 0 < v.shares → Pops InOrder number v (Takes v)
off number v plain share (Pages h) queue ends r at = let step = pages_off number v h queue ends plain share r at in (after_take v (Pages h), step.0, (refl, step.1))
off number v plain share Mark queue ends r at = let step = mark_off number v queue ends plain share r at in (after_take v Mark, step.0, (refl, step.1))

-- the giver cuts off a share for a taker
pub cuts : (number : ℕ) (v : Known) → 1 < v.shares → Forks InOrder number v (record v { shares = v.shares - 1 }) taker_knows
cuts number v shares queue ends r at =
    let w : Known = record v { shares = v.shares - 1 } in
    let ws : List Known = set ends number w in
    let ended : all_ended (ws ++ taker_knows ∷ []) ≡ all_ended ends =
    let a = total_new (λ u. u.ended) ws taker_knows in let b = total_same (λ u. u.ended) ends number v w at refl in omega arith in
    let Rule : ℕ → Known → Type 0 = Obeys r.giver (r.off ++ pages_of r.waiting) r.waiting (all_ended (ws ++ taker_knows ∷ []) + r.marks) in
    let stays : Each ends Rule = λ j u e. still refl (ap (λ n. n + r.marks) (sym ended)) (λ most every. every) (obeyed queue ends r j u e) in
    let was = stays number v at in
    ordered r.giver r.base r.off r.waiting r.marks r.serials r.queued
    (subst (λ l. IsPermutation l r.off) (sym (off_new ws taker_knows refl)) (off_stays r number v w at refl))
    (λ some. r.done (omega arith))
    (let a = total_new (λ u. u.shares) ws taker_knows in let b = total_set (λ u. u.shares) ends number v w at in let e = r.shares in omega arith)
    (each_new Rule ws taker_knows
    (each_set Rule ends number w (record { rises = was.rises; gave = was.gave; spent = λ none. absurd (omega arith) }) (λ j u other. stays j u))
    (taker_obeys taker_knows refl (omega arith) rising-nil))

-- the giver takes a share back
pub joins : (number : ℕ) (v : Known) (other : ℕ) (u : Known) → v.gives ≡ true → 0 < v.shares → Merges InOrder number v other u (joined v u) nothing_known
joins number v other u gives share queue ends r at apart at_other =
    let both : Known = joined v u in
    let vs : List Known = set ends number both in
    let us : List Known = set vs other nothing_known in
    let was : get_elem? ends other ≡ some u = ⊎_elim (λ x. absurd (apart x.0)) (λ x. x.1) (at_set ends number other both u at_other) in
    let sums : (f : Known → ℕ) → f nothing_known ≡ 0 → f both ≡ f v + f u → total f us ≡ total f ends =
    λ f none sum. let a = total_set f vs other u nothing_known at_other in let b = total_set f ends number v both at in omega arith in
    let ended : all_ended us ≡ all_ended ends = sums (λ y. y.ended) refl refl in
    let Rule : ℕ → Known → Type 0 = Obeys r.giver (r.off ++ pages_of r.waiting) r.waiting (all_ended us + r.marks) in
    let stays : Each ends Rule = λ j y e. still refl (ap (λ n. n + r.marks) (sym ended)) (λ most every. every) (obeyed queue ends r j y e) in
    ordered r.giver r.base r.off r.waiting r.marks r.serials r.queued
    (IsPermutation-trans (all_off us) (all_off ends) r.off (off_joined ends number other v u both nothing_known apart at was refl refl) r.together)
    (λ some. r.done (omega arith))
    (sums (λ y. y.shares) refl refl ∙ r.shares)
    (each_set Rule vs other nothing_known (record { rises = λ plain. rising-nil; gave = λ none. absurd (true≢false (sym none)); spent = λ none. (refl, refl) })
    (λ j y away. each_set Rule ends number both
    (record { rises = λ plain. absurd (true≢false (sym gives ∙ plain)); gave = (stays number v at).gave; spent = λ none. absurd (omega arith) })
    (λ i z far. stays i z) j y))

-- an end that has every share knows all lists
pub settles : (number : ℕ) (v : Known) → v.gives ≡ true → v.shares ≡ 1024 → 0 < v.ended → v.ended ≡ v.marks → Learns InOrder number v (Settles v)
settles number v gives every has_ended all_marks queue ends r at =
    let this = r.given number v at gives in
    let count = this.2 in
    let whole = r.shares ∙ sym every in
    let ended : all_ended ends ≡ v.ended = total_alone (λ u. u.ended) ends number v at whole (λ j u e none. (r.spent j u e none).1) in
    let lists : all_off ends ≡ v.off = off_alone ends number v at whole (λ j u e none. (r.spent j u e none).0) in
    let empty : r.waiting ≡ [] = r.done (omega arith) in
    let given : v.given ≡ r.off = this.1 ∙ ap (λ l. r.off ++ pages_of l) empty ∙ append-nil r.off in
    let none : r.marks ≡ 0 = omega arith in (
      subst (λ l. IsPermutation l v.given) lists (subst (λ l. IsPermutation (all_off ends) l) (sym given) r.together),
      r.queued ∙ ap (λ l. map Pages l ++ replicate r.marks Mark) empty ∙ ap (λ m. replicate m Mark) none,
    )
